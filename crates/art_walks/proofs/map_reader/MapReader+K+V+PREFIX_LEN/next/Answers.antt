use Rattle.std.proofs.Common.{Some, ap, ap₂, subst, sym, ◌∙◌}
use Rattle.art_walks.proofs.Terms.{IsSpan, IsSpanOf}
use Rattle.art_walks.proofs.MapReads.{span-later, span-step}
use Rattle.art_walks.proofs.map_reader.MapReader+K+V+PREFIX_LEN.next.Goals as goal

pub returns-clause-first : goal.returns-clause-first
returns-clause-first g c = rw (← c.self.view_is, ← c.span.view_is) (λ pairs p left span.
    let step = span-step c.self.inside.reader.arena.now c.span.inside.leaves c.in_ok-first.first c.in_ok-first.last (cc c.in_ok-first.was) c.visit_leaf-leaf.result.now c.visit_leaf-leaf.ensures.value c.after-span-inside.result
    c.after-span-inside.ensures.alone (λ apart n e. c.after-span-inside.ensures.more apart n (c.next.ensures ∙ e)) pairs p left span in (
      ap Some (ap₂ (λ k v. (k, v)) c.entry_ref.ensures.key c.entry_ref.ensures.value ∙ sym step.0),
      subst (λ a. IsSpanOf a pairs c.after-span-inside.result left) (sym c.visit_leaf-leaf.ensures.kept) step.1,
    ))

pub returns-clause-span : goal.returns-clause-span
returns-clause-span g c =
    subst (λ a. IsSpan a c.after-span-inside.result) (sym c.visit_leaf-leaf.ensures.kept)
    (span-later c.self.inside.reader.arena.now c.span.inside.leaves c.in_ok-first.first c.in_ok-first.last (cc c.in_ok-first.was) c.visit_leaf-leaf.result.now c.visit_leaf-leaf.ensures.value c.after-span-inside.result
    c.after-span-inside.ensures.alone (λ apart n e. c.after-span-inside.ensures.more apart n (c.next.ensures ∙ e)) (rw (← c.self.view_is, ← c.span.view_is) at c.requires))
