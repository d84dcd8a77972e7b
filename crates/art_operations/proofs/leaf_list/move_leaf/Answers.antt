use Rattle.std.proofs.Common.{[], refl, sym, subst}
use Rattle.art_operations.proofs.Terms.{StandsBetween, HasMovedOne}
use Rattle.art_operations.proofs.LeafListsMoved.{moved-one}
use Rattle.art_operations.proofs.leaf_list.move_leaf.Goals as goal

pub returns-clause-moved : goal.returns-clause-moved
returns-clause-moved g c = λ ls moved stands holds.
    let at = subst (λ k. StandsBetween c.args.to.now k [] moved) (sym c.at_start-start.ensures) (record { leaves = holds.holds; first = holds.first_is; before = refl; after = holds.first_is }) in
    let one = moved-one c.remove.new.arena c.insert.new.arena c.remove.new.self c.insert.new.self c.in-Some.key c.in-Some.value ls moved (c.in-Some.ensures.value ls [] stands) (c.in-Ok.ensures.ok [] moved at) in
    subst (λ f. HasMovedOne c.remove.new.arena c.remove.new.self c.insert.new.arena f ls moved) (sym c.first.ensures) one
