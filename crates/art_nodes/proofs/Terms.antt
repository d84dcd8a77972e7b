-- The words of this crate that its proofs and those above name, from one place.
pub use Rattle.art_nodes.specs.Concrete.{inner_name_of}
pub use Rattle.art_nodes.specs.Header.{Header, IsHeader, front_of}
pub use Rattle.art_nodes.specs.InnerNode.{AreValidBounds, InnerNode, IsAscending, IsAscendingFrom, IsInnerNode, child_at, children_between, first_child, is_from, is_to, last_child, names_of, node_with, with_child, with_children, without_child}
pub use Rattle.art_nodes.specs.Kind.{CanShrink, grown_kind, row_of, shrunk_kind}
pub use Rattle.art_nodes.specs.Name.{Name}
pub use Rattle.art_nodes.specs.PrefixMatch.{agreeing}
pub use Rattle.art_nodes.specs.Replay.{AreChildAnswers, IsChildAnswer, children_after}
pub use Rattle.art_nodes.specs.declared.kind.NodeType.{NodeType}
pub use Rattle.art_nodes.specs.declared.kind.NodeType.TheVariants.{Leaf, Node16, Node256, Node32, Node4, Node48}
pub use Rattle.art_nodes.specs.declared.leaf.LeafNode.{LeafNode}
pub use Rattle.art_nodes.specs.inner.Mask.{is_marked, is_set, marked}
pub use Rattle.art_nodes.specs.inner.Place.{BelongsAt, IsFirstFrom, IsLastBelow, StandsAt, bytes_within, children_within, place}
pub use Rattle.art_nodes.specs.inner.Sorted.{InUse, IsSideBySide, in_use}
pub use Rattle.art_nodes.specs.inner.Table.{IsCountedTable, IsPartOfTable, bytes_of, children_from, entry_at}
