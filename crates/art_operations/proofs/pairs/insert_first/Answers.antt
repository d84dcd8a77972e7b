use Rattle.std.proofs.Common.{arith}
use Rattle.art_operations.proofs.HeldPairs.{put-first, first-keeps}
use Rattle.art_operations.proofs.LeafNames.{allocated-names}
use Rattle.art_operations.proofs.pairs.insert_first.Goals as goal

pub returns-clause-ok : goal.returns-clause-ok
returns-clause-ok g c = λ rest before.
    rw (c.to_opaque.ensures)
    (put-first g.K.AsBytes.bytes g.row.PREFIX_LEN c.args.arena.now c.store_leaf.new.arena rest c.in_ok-leaf.leaf c.args.key c.args.value before c.in_ok-leaf.ensures.ok)

pub returns-clause-others : goal.returns-clause-others
returns-clause-others g c = λ rest before.
    first-keeps g.K.AsBytes.bytes g.row.PREFIX_LEN c.args.arena.now c.store_leaf.new.arena rest c.in_ok-leaf.leaf c.args.key c.args.value before c.in_ok-leaf.ensures.ok

pub returns-clause-leaf_room : goal.returns-clause-leaf_room
returns-clause-leaf_room g c = λ n room. let made = c.in_ok-leaf.ensures.room_of.own n room in omega (arith, made)

pub returns-clause-names : goal.returns-clause-names
returns-clause-names g c = allocated-names g.K.AsBytes.bytes c.args.arena.now c.store_leaf.new.arena c.in_ok-leaf.leaf _ c.in_ok-leaf.ensures.ok
