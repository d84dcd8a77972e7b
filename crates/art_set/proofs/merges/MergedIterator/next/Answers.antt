use Rattle.std.proofs.Common.{subst}
use Rattle.std.specs.Map.Iter.{TakesFirst, deref}
use Rattle.art_set.proofs.Terms.{merging}
use Rattle.art_set.proofs.MergeLemmas.{gives, goes}
use Rattle.art_set.proofs.merges.MergedIterator.next.Goals as goal

pub returns-clause-steps : goal.returns-clause-steps
returns-clause-steps g c =
    let bytes = g.K.AsBytes.bytes in
    let taken = subst (λ w. TakesFirst deref (merging bytes w c.self.inside.sides) c.next_wanted.result (merging bytes w c.next_wanted.new.self)) c.wanted.ensures c.next_wanted.ensures.takes in
    rw (← c.self.view_is)
    (gives bytes g.W.Kind.of_lists g.W.Kind.keys g.met.W.Kind.same c.self.inside.sides c.next_wanted.new.self c.next_wanted.result taken c.next_wanted.ensures.compared c.next_wanted.ensures.ended)

pub returns-clause-goes : goal.returns-clause-goes
returns-clause-goes g c = goes _ _ c.next_wanted.result (returns-clause-steps g c)
