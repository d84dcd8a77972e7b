use Rattle.std.proofs.Common.{arith}
use Rattle.art_operations.proofs.HeldPairs.{some-tree, place_is_free, blocked-key}
use Rattle.art_operations.proofs.pairs.find_place.Goals as goal

pub find_insert_point-requires : goal.find_insert_point-requires
find_insert_point-requires g c =
    (omega arith, some-tree g.K.AsBytes.bytes g.row.PREFIX_LEN c.args.arena.now c.requires.1 c.args.root c.in-Some.top c.in-Some.is c.args.key.now c.requires.0 c.requires.2)

pub returns-in-Ok-clause-placed : goal.returns-in-Ok-clause-placed
returns-in-Ok-clause-placed g c pairs rest has =
    place_is_free g.K.AsBytes.bytes g.row.PREFIX_LEN c.args.arena.now rest c.args.root c.in-Some.top c.in-Some.is c.args.key.now pairs has c.in-Ok.point c.in-Ok.ensures.value

pub returns-in-Err-clause-placed : goal.returns-in-Err-clause-placed
returns-in-Err-clause-placed g c pairs rest has =
    blocked-key g.K.AsBytes.bytes g.row.PREFIX_LEN c.args.arena.now rest c.args.root c.in-Some.top c.in-Some.is c.args.key.now pairs has c.in-Err.ensures.value

pub returns-in-None-clause-placed : goal.returns-in-None-clause-placed
returns-in-None-clause-placed g c pairs rest has =
    let none = rw c.in-None.is at has in
    (none, λ blocked. (rw none.0 at blocked).1)

pub returns-in-Ok-clause-place : goal.returns-in-Ok-clause-place
returns-in-Ok-clause-place g c = rw c.in-Some.is (λ s tree. ∣ (c.in-Ok.ensures.value s tree).0 ∣₁)
