-- What proofs above this crate name of it, from one place: its words and its lemmas.
pub use Rattle.art_arena.proofs.Terms.{Allocates, AreAround, AreBelow, AreHalves, AreHeld, AreLinked, AreUnder, Arena, AscendsByKey, Branches, Cell, ChangesKind, Forest, Frame, FreesRoomOf, Group, HasNoFront, HasNoRoom, HasNoSpare, HasNoUnusedRoom, HasRoom, HasRoomOf, Held, Holds, HoldsOnly, IsArenaClone, IsAtDepth, IsAtKey}
pub use Rattle.art_arena.proofs.Terms.{IsBeside, IsCanonical, IsCrossing, IsHeldClone, IsIn, IsKindOf, IsLimit, IsList, IsMeant, IsNodesBeside, IsPart, IsPlace, IsPutIn, IsSubtree, IsTreeBeside, IsUnder, KeepsLinksOutside, KeepsNodes, KeepsRoom, KeepsRoomOf, KeysWithin, LandsAt, LeafAt}
pub use Rattle.art_arena.proofs.Terms.{Links, Means, OnWayTo, ReadsPath, SameCells, SameLeaves, SameNodes, Shape, Shrinks, Step, Stores, StoresAt, StoresBelow, StoresBeside, StoresOnly, TakesFronts, Tree, UpdatesAt, UsesRoomOf, WritesLinks, add_to, as_inner, as_leaf, begins_with, branch}
pub use Rattle.art_arena.proofs.Terms.{branches, byte_after, bytes_after, cell_of, cells, cells_after, cells_before, cells_in, child, children_at, children_of, copies, count, count_of, crossings, distinct, end_slot, erase, erase_in, fill, first_slot, found_in, frame_cell, fronts_of}
pub use Rattle.art_arena.proofs.Terms.{fronts_with, grouped, held_as, held_at, inner, inner_at, inner_held, is_before, items, join, key_of, last_slot, leaf, leaf_at, leaf_held, leaf_name, leaf_where, leaves, leaves_after, leaves_before, leaf_capacity, leaves_held, leaves_in, links_at}
pub use Rattle.art_arena.proofs.Terms.{links_of, name_of, neighbour_fronts, no_branch, no_child, node_at, node_of, nodes_in, nodes_with, pair, pairs_of, passing, path_in, path_of, path_to, plug, prefix_of, put_in_order, root_of, same_kind, same_name, slots_of, steps_of, steps_to, times}
pub use Rattle.art_arena.proofs.Terms.{tree_below, tree_of, width, width_of, with_front, with_leaf, with_leaf_value, without_front}
pub use Rattle.art_arena.proofs.shapes.Besides.{keeps-beside, keeps-held, keeps-same}
pub use Rattle.art_arena.proofs.shapes.CellLists.{Holds-add, Holds-remove, Holds-same, Holds-swap, Holds-turn, Holds-write, cell_children, copies-append, copies-vacant, holds-only, only-holds, same_cell, same_kind_tells, same_name-self, same_name_tells}
pub use Rattle.art_arena.proofs.shapes.Contexts.{AreUnder-join, IsUnder-plug, cells-plug, cells_in-join, children_at-join, leaves-plug, leaves_in-join, length-children, name_of-plug, width-join}
pub use Rattle.art_arena.proofs.shapes.Erased.{canonical-erase, count-erase, items-erase, shape_means}
pub use Rattle.art_arena.proofs.shapes.Finding.{other_key, pair_at, pairs-with_key, same_key}
pub use Rattle.art_arena.proofs.shapes.FoundLeaves.{leaf_fails, leaf_passes, leaves_of, located-fails, located-passes, misses, passing-located, takes_equal, takes_front}
pub use Rattle.art_arena.proofs.shapes.HeldLeaves.{leaves_beside, leaves_counted, no_inner}
pub use Rattle.art_arena.proofs.shapes.LeafValues.{LeafThere, cell-some, leaf-there}
pub use Rattle.art_arena.proofs.shapes.LinkedLists.{AreLinked-frame, AreLinked-join, AreLinked-kept, AreLinked-left, AreLinked-right, AreLinked-same, around_leaf, empty-first, end_there, ends_with, ends_with-first, eqb-self, first-apart, first_slot-append, halves-apart, halves-end}
pub use Rattle.art_arena.proofs.shapes.LinkedLists.{halves-no_end, halves-start, joined, kept-around, kept-before, kept-after, kept-between, kept-run, kept-without_run, last-apart, last_slot-append, link_there, linked_in, outside-apart, parted, relink_end, slot_list, some_of, start_there}
pub use Rattle.art_arena.proofs.shapes.LinkedLists.{times-append, times-here}
pub use Rattle.art_arena.proofs.shapes.Meanings.{all-means, means-subtree, nodes-part, nodes-subtree}
pub use Rattle.art_arena.proofs.shapes.Measures.{cells_few, few, held_few, nodes_below, nodes_below-held, nothing_there, occurrences, pair_there, slots_as, slots_in, slots_within, total}
pub use Rattle.art_arena.proofs.shapes.Openings.{opening, with_child-opening, without_child-frame}
pub use Rattle.art_arena.proofs.shapes.Passing.{following, byte_following}
pub use Rattle.art_arena.proofs.shapes.Places.{at-root, held-below, leaves-begin, leaves_in-begin}
pub use Rattle.art_arena.proofs.shapes.Prefixes.{begins_of, begins_tells, drop-front, first_leaf, header_there, leaves_are_held, read, tail, take-front}
pub use Rattle.art_arena.proofs.shapes.Reads.{part_within}
pub use Rattle.art_arena.proofs.shapes.Repoint.{HasGrandparent, HasParent, IsNodesBeside-plug, at_root, child_at-frame, frame-child, frame-inner, frame-there, frame_node, grandparent-of, no-grandparent, parent-of, repoint, repointed, unplugged}
pub use Rattle.art_arena.proofs.shapes.Subtrees.{AreUnder-here, HoldsPair, branch-first, branch-last, cell_held, has_last, holds_pair, inner_of, leaves_begin_prefix, root_held, some_leaf, subtree-branch, subtree-inner, subtree-leaf}
pub use Rattle.art_arena.proofs.shapes.Surroundings.{AreAfter, AreBefore, branches-after, branches-before, conflict, ctx-after, ctx-before, free, new-beside, smaller_byte_first, times-leaves, times-leaves_in, tree-list}
pub use Rattle.art_arena.proofs.shapes.Updates.{links-kept, links-same, links-update, nodes-same, nodes-update}
pub use Rattle.art_arena.proofs.shapes.Walking.{place-subtree}
pub use Rattle.art_arena.proofs.tree.Distinct.{bytes_from_same, length_sum}
pub use Rattle.art_arena.proofs.tree.Exists.{before_true, in_middle, put_is, tree_of_ascending, true_before}
pub use Rattle.art_arena.proofs.tree.Fronts.{Widths, WidthsIn, begins_trans, common_left, kinds_are_fronts, one_byte, sum_fronts, weights, weights_in, widths}
pub use Rattle.art_arena.proofs.tree.Insert.{all_at, in_left, in_right}
pub use Rattle.art_arena.proofs.tree.Order.{all_append, all_left, all_right, all_weaker, ascending_append}
pub use Rattle.art_arena.proofs.tree.Parts.{begins_same, own_all}
pub use Rattle.art_arena.proofs.tree.Paths.{in_cases, in_map, in_unmap}
pub use Rattle.art_arena.proofs.tree.Tenants.{begins_false, begins_true, common_right, few_crossings, tenant_path}
