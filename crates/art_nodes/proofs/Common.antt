-- What proofs above this crate name of it, from one place: its words and its lemmas.
pub use Rattle.art_nodes.proofs.Terms.{CanShrink, Header, InnerNode, IsAscending, IsAscendingFrom, IsInnerNode, Name, agreeing, child_at, children_between, first_child, inner_name_of, last_child, names_of, node_with, row_of, shrunk_kind, with_child, with_children, without_child}
pub use Rattle.art_nodes.proofs.ChildLemmas.{is_true-eq, length-ascending, with_child-after}
