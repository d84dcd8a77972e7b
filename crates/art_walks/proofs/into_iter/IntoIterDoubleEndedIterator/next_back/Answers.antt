use Rattle.std.proofs.Common.{[], ◌-◌, ◌∷◌, ◌++◌, ◌∙◌, ap, ap₂, arith, sym}
use Rattle.art_arena.specs.declared.ends.End.TheVariants.{Last}
use Rattle.art_walks.proofs.Terms.{pairs_along, start_of}
use Rattle.art_walks.proofs.Rests.{Gave, back-held, fewer, gave-back}
use Rattle.art_walks.proofs.into_iter.IntoIterDoubleEndedIterator.next_back.Given.{Over}
use Rattle.art_walks.proofs.into_iter.IntoIterDoubleEndedIterator.next_back.Goals as goal

gave : (g : Over) (c : goal.After-into_entry g)
    → Gave Last c.self.inside.arena c.deallocate_node_ptr-leaf.new.self c.self.inside.leaves c.before-self-inside.result c.self.inside.len (c.deallocate_node_ptr-leaf.result.key, c.deallocate_node_ptr-leaf.result.value)
gave g c =
    gave-back c.self.inside.arena c.self.inside.leaves c.in_ok-first.first c.in_ok-first.last c.self.inside.len (cc c.in_ok-first.was) c.self.invariant
    c.deallocate_node_ptr-leaf.new.self c.before-self-inside.result c.deallocate_node_ptr-leaf.result c.deallocate_node_ptr-leaf.ensures.value c.deallocate_node_ptr-leaf.ensures.updates
    c.before-self-inside.ensures.alone (λ apart n e. c.before-self-inside.ensures.more apart n (c.previous.ensures ∙ e))

pub deallocate_node_ptr-leaf-requires : goal.deallocate_node_ptr-leaf-requires
deallocate_node_ptr-leaf-requires g c =
    (omega arith, back-held c.self.inside.arena c.self.inside.leaves c.in_ok-first.first c.in_ok-first.last c.self.inside.len (cc c.in_ok-first.was) c.self.invariant)

pub invariant_of-self : goal.invariant_of-self
invariant_of-self g c = (gave g c).rest

pub returns-clause-steps : goal.returns-clause-steps
returns-clause-steps g c =
    let left = pairs_along (c.self.inside.len - 1) c.deallocate_node_ptr-leaf.new.self (start_of c.before-self-inside.result) in
    rw (← c.self.view_is) ((gave g c).parts ∙ ap (λ p. left ++ p ∷ []) (ap₂ (λ k v. (k, v)) (sym c.into_entry.ensures.key) (sym c.into_entry.ensures.value)))

pub returns-clause-goes : goal.returns-clause-goes
returns-clause-goes g c = record {
  on = λ fin. (
    tt,
    tt,
    rw (← c.self.view_is)
        (fewer Last c.self.inside.arena c.deallocate_node_ptr-leaf.new.self c.self.inside.leaves c.before-self-inside.result c.self.inside.len _ c.self.invariant (gave g c)),
  );
  keeps = tt;
  rests = λ fin. tt;
}
