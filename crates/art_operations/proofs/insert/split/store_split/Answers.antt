use Rattle.art_nodes.specs.declared.kind.NodeType.TheVariants.{Leaf}
use Rattle.art_operations.proofs.insert.split.store_split.Goals as goal

pub returns-in-Ok-clause-leaf_room : goal.returns-in-Ok-clause-leaf_room
returns-in-Ok-clause-leaf_room g c = λ n room. c.in-Ok.ensures.room_of.others Leaf (λ e. absurd (cc)) n room

pub returns-in-Err-clause-leaf_room : goal.returns-in-Err-clause-leaf_room
returns-in-Err-clause-leaf_room g c = λ n room. c.in-Err.ensures.kept_room Leaf n room
