use Rattle.std.proofs.Common.{refl}
use Rattle.art_map.proofs.LentWalks.{is-lent, run-left, run-lent, same-left}
use Rattle.art_map.proofs.RoomKept.{pair-room}
use Rattle.art_map.proofs.map.walks_mut.RangeMut.lend.Goals as goal

pub invariant_of-self : goal.invariant_of-self
invariant_of-self g c =
    let walk = c.args.self.now in
    record { valid = run-left walk.map.now c.args.end walk.leaves c.leaf_of.new.leaves walk.valid c.leaf_of.ensures.left }

pub invariant_of-self-lent : goal.invariant_of-self-lent
invariant_of-self-lent g c =
    let walk = c.args.self.now in
    λ w. (run-lent walk.map.now c.args.end walk.leaves c.leaf_of.new.leaves walk.valid c.in-Some.ensures.left c.in-Some.leaf c.in-Some.ensures.leaf w, tt)

pub returns : goal.returns
returns g c =
    let walk = c.args.self.now in
    let step = c.in-Some.ensures in (
      (refl, λ w. same-left walk c.in-Some.leaf c.leaf_of.new.leaves c.args.end step.leaf step.left w _),
      record { writes_back = tt; lent = is-lent walk c.in-Some.leaf c.leaf_of.new.leaves c.args.end step.leaf step.left _ (step.rest.1 _ c.pair_mut_at.ensures.value, c.pair_mut_at.ensures.pairs, pair-room walk.map.now c.in-Some.leaf _ c.pair_mut_at.ensures.value) },
    )
