use Rattle.std.proofs.Common.{[], ◌∙◌}
use Rattle.art_nodes.specs.declared.kind.NodeType.TheVariants.{Leaf}
use Rattle.art_operations.proofs.Common.{fresh}
use Rattle.art_map.proofs.map.compact.reserve_tree.Goals as goal

pub returns-clause-none : goal.returns-clause-none
returns-clause-none g c =
    c.reserve.ensures.left []
    (fresh g.K.AsBytes.bytes g.row.PREFIX_LEN c.reserve_kind.new.self c.new-builder.result c.new-builder.ensures.last c.new-builder.ensures.spine c.new-builder.ensures.room (λ n. c.reserve_kind.ensures.kept n ∙ c.new-arena.ensures.none n))

pub returns-clause-leaves : goal.returns-clause-leaves
returns-clause-leaves g c = c.reserve.ensures.room_of Leaf c.args.leaves c.in_ok-reserve_kind.ensures.room
