use Rattle.std.proofs.Common.{sym, subst}
use Rattle.art_operations.proofs.Common.{Builds, HasLeavesOf, HasRoomBeside}
use Rattle.art_map.proofs.map.builder.TreeMapBuilder.build_in_order.Goals as goal

pub returns-clause-pairs : goal.returns-clause-pairs
returns-clause-pairs g c = λ pairs taken.
    c.of_tree.ensures.pairs pairs
    (subst (λ a. Builds g.K.AsBytes.bytes g.row.PREFIX_LEN a c.replace-builder.result pairs) (sym c.replace-arena.ensures.value)
    (subst (λ b. Builds g.K.AsBytes.bytes g.row.PREFIX_LEN c.args.self.now.arena b pairs) (sym c.replace-builder.ensures.value) taken.0))

pub returns-clause-names : goal.returns-clause-names
returns-clause-names g c = subst (HasLeavesOf g.K.AsBytes.bytes c.of_tree.result.nodes) c.replace-arena.ensures.value c.of_tree.ensures.names

pub returns-clause-room : goal.returns-clause-room
returns-clause-room g c = λ n room.
    c.of_tree.ensures.room n
    (subst (λ a. HasRoomBeside a c.replace-builder.result n) (sym c.replace-arena.ensures.value) (subst (λ b. HasRoomBeside c.args.self.now.arena b n) (sym c.replace-builder.ensures.value) room))
