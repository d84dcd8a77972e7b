use Rattle.std.proofs.Common.{sym, subst}
use Rattle.std.specs.Prelude.{IfNone, OnSome}
use Rattle.art_nodes.specs.declared.kind.NodeType.TheVariants.{Leaf}
use Rattle.art_arena.proofs.Common.{KeepsRoomOf}
use Rattle.art_arena.specs.arena.Rooms.{FreesRoomOf}
use Rattle.art_map.proofs.RoomKept.{none-value, some-value}
use Rattle.art_map.proofs.map.TreeMap.remove.Goals as goal

pub returns-clause-none_room : goal.returns-clause-none_room
returns-clause-none_room g c = subst (λ o. IfNone o (KeepsRoomOf c.args.self.now.nodes c.remove_entry.new.self.nodes)) (sym c.value_of.ensures) (none-value _ c.in_ok-pair.pair c.in_ok-pair.ensures.none_room)

pub returns-clause-leaf_room : goal.returns-clause-leaf_room
returns-clause-leaf_room g c = subst (λ o. OnSome o (FreesRoomOf Leaf c.args.self.now.nodes c.remove_entry.new.self.nodes)) (sym c.value_of.ensures) (some-value _ c.in_ok-pair.pair c.in_ok-pair.ensures.leaf_room)
