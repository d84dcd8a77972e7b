-- What the laws of the kinds stand on. Nothing here is a definition.
use Rattle.std.proofs.Common.{◌≢◌, ◌<◌, subst, arith}
use Rattle.art_nodes.specs.declared.kind.NodeType.{NodeType}
use Rattle.art_nodes.specs.declared.kind.NodeType.TheVariants.{Leaf}
use Rattle.art_nodes.specs.Kind.{row_of}

-- a kind with room for children is not that of a leaf
pub has_room : (kind : NodeType) → 0 < (row_of kind).most → kind ≢ Leaf
has_room kind some leaf = none (subst (λ k. 0 < (row_of k).most) leaf some)
  where
    none : 0 < 0 → ⊥
    none h = omega arith
