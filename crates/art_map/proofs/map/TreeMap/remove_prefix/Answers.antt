use Rattle.std.proofs.Common.{ℕ, ◌+◌, sym, subst}
use Rattle.art_nodes.specs.declared.kind.NodeType.TheVariants.{Leaf}
use Rattle.art_arena.specs.arena.Arena.{HasRoom, HasRoomOf, UsesRoom}
use Rattle.art_operations.proofs.Common.{same-names}
use Rattle.art_map.proofs.Terms.{KeepsLeaves}
use Rattle.art_map.proofs.map.TreeMap.remove_prefix.Goals as goal

pub returns-in-Ok-clause-names : goal.returns-in-Ok-clause-names
returns-in-Ok-clause-names g c =
    let end = c.self-1.given in
    subst (KeepsLeaves g.K.AsBytes.bytes c.args.self.now) (sym (end.1 (sym c.in-Ok.ensures.same_map)))
    (λ slot key has still. c.apply.ensures.names slot key (same-names g.K.AsBytes.bytes c.args.self.now.nodes c.in-Ok.removal.map.now.nodes c.in-Ok.ensures.kept.0 slot key has) still)

pub returns-in-Ok-clause-room : goal.returns-in-Ok-clause-room
returns-in-Ok-clause-room g c =
    let end = c.self-1.given in
    subst (λ m. UsesRoom 1 c.args.self.now.nodes m.nodes) (sym (end.1 (sym c.in-Ok.ensures.same_map))) (λ n room. c.apply.ensures.room n (c.in-Ok.ensures.kept_room (n + 1) room))

pub returns-in-Ok-clause-leaf_room : goal.returns-in-Ok-clause-leaf_room
returns-in-Ok-clause-leaf_room g c =
    let end = c.self-1.given in
    subst (λ m. (n : ℕ) → HasRoom c.args.self.now.nodes n → HasRoomOf m.nodes Leaf (n + c.apply.result.pairs)) (sym (end.1 (sym c.in-Ok.ensures.same_map)))
    (λ n room. c.apply.ensures.leaf_room n (c.in-Ok.ensures.kept_room n room).leaves)
