use Rattle.std.proofs.Common.{◌-◌, ◌∷◌, ◌∙◌, ap, ap₂, sym}
use Rattle.art_arena.specs.declared.ends.End.TheVariants.{First}
use Rattle.art_walks.proofs.Terms.{pairs_along, start_of}
use Rattle.art_walks.proofs.Rests.{Gave, fewer, gave-front}
use Rattle.art_walks.proofs.into_iter.IntoIterIterator.next.Given.{Over}
use Rattle.art_walks.proofs.into_iter.IntoIterIterator.next.Goals as goal

gave : (g : Over) (c : goal.After-into_entry g)
    → Gave First c.self.inside.arena c.deallocate_node_ptr-leaf.new.self c.self.inside.leaves c.after-self-inside.result c.self.inside.len (c.deallocate_node_ptr-leaf.result.key, c.deallocate_node_ptr-leaf.result.value)
gave g c =
    gave-front c.self.inside.arena c.self.inside.leaves c.in_ok-first.first c.in_ok-first.last c.self.inside.len (cc c.in_ok-first.was) c.self.invariant
    c.deallocate_node_ptr-leaf.new.self c.after-self-inside.result c.deallocate_node_ptr-leaf.result c.deallocate_node_ptr-leaf.ensures.value c.deallocate_node_ptr-leaf.ensures.updates
    c.after-self-inside.ensures.alone (λ apart n e. c.after-self-inside.ensures.more apart n (c.next.ensures ∙ e))

pub invariant_of-self : goal.invariant_of-self
invariant_of-self g c = (gave g c).rest

pub returns-clause-steps : goal.returns-clause-steps
returns-clause-steps g c =
    let left = pairs_along (c.self.inside.len - 1) c.deallocate_node_ptr-leaf.new.self (start_of c.after-self-inside.result) in
    rw (← c.self.view_is) ((gave g c).parts ∙ ap (λ p. p ∷ left) (ap₂ (λ k v. (k, v)) (sym c.into_entry.ensures.key) (sym c.into_entry.ensures.value)))

pub returns-clause-goes : goal.returns-clause-goes
returns-clause-goes g c = record {
  on = λ fin. (
    tt,
    tt,
    rw (← c.self.view_is)
        (fewer First c.self.inside.arena c.deallocate_node_ptr-leaf.new.self c.self.inside.leaves c.after-self-inside.result c.self.inside.len _ c.self.invariant (gave g c)),
  );
  keeps = tt;
  rests = λ fin. tt;
}
