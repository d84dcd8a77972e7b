use Rattle.std.proofs.Common.{subst, sym}
use Rattle.std.specs.Prelude.{option_map}
use Rattle.std.specs.Map.{values_of}
use Rattle.use_number_index.specs.Entries.{IsEarliest}
use Rattle.use_number_index.proofs.Times.{first_is_earliest}
use Rattle.use_number_index.proofs.ByTime.earliest.Goals as goal

pub returns-in-Some : goal.returns-in-Some
returns-in-Some c =
    let pairs = c.self.inside.entries.pairs in
    rw (← c.self.view_is)
    (subst (λ first. IsEarliest (values_of pairs) (option_map (λ p. p.1) first)) (sym c.in-Some.ensures)
    (first_is_earliest pairs c.self.invariant c.nodes.ensures.ordered))

pub returns-in-None : goal.returns-in-None
returns-in-None c =
    let pairs = c.self.inside.entries.pairs in
    rw (← c.self.view_is)
    (subst (λ first. IsEarliest (values_of pairs) (option_map (λ p. p.1) first)) (sym c.in-None.ensures)
    (first_is_earliest pairs c.self.invariant c.nodes.ensures.ordered))
