-- A leaf as a part of a tree.
use Rattle.std.specs.Prelude.{◌≡◌}
use Rattle.art_nodes.specs.Name.{Name}
use Rattle.art_arena.specs.arena.Cells.{leaf_name}
use Rattle.art_operations.specs.declared.delete.subtree.SubtreeDeletePoint.{SubtreeDeletePoint}
use Rattle.art_operations.specs.declared.insert.point.InsertKind.TheVariants as kind
use Rattle.art_operations.specs.declared.insert.point.InsertPoint.{InsertPoint}

-- the part is the leaf that has the point's key
pub record IsLeafPart (root : Name) (point : InsertPoint) (part : SubtreeDeletePoint) : Type 0 where
  pub root_is : part.root ≡ root
  pub path_is : part.path ≡ point.path
  pub leaf_is : part.subtree ≡ leaf_name part.first_leaf
  pub last_is : part.last_leaf ≡ part.first_leaf
  pub exact : point.insert_kind ≡ kind.Exact part.first_leaf
