-- The words of this crate that its proofs and those above name, from one place.
pub use Rattle.art_arena.specs.Laws.{AllIsMeant, Deletion, EditKeepsOthers, FrontIsBlock, Insertion, InsertionIsFree, LimitsAreKinds, OneMeaning, OrderIsLexicographic, ShapeMeansTree, ShrinksIsKindChange}
pub use Rattle.art_arena.specs.arena.Arena.{Allocates, Arena, HasNoRoom, HasNoUnusedRoom, HasRoom, HasRoomOf, Held, IsTrimmed, KeepsNodes, KeepsRoom, KeepsRoomOf, SameCells, SameNodes, WritesLinks, as_inner, as_leaf, cell_of, held_as, held_at, inner_held, leaf_held, leaf_capacity, leaves_held, links_at, links_of}
pub use Rattle.art_arena.specs.arena.Arena.{node_at, slots_of, with_leaf}
pub use Rattle.art_arena.specs.arena.ArenaClones.{HasNoSpare, IsArenaClone, IsHeldClone}
pub use Rattle.art_arena.specs.arena.Cells.{AreHeld, Cell, Holds, HoldsOnly, UpdatesAt, branches, copies, leaf_name, pair, same_kind, same_name}
pub use Rattle.art_arena.specs.arena.Context.{AreAround, AreBelow, Frame, cells_after, cells_before, fill, frame_cell, leaves_after, leaves_before, path_to, plug, root_of}
pub use Rattle.art_arena.specs.arena.Descents.{AgreesUpTo, GoesNoFurther, GoesOn, GuidesBelow, HasConflict, HasNoFront, IsGuide, LandsAt, MeetsStored, NoConflict, OnWayTo, ReadsLookUp, ReadsPath, Stops, TakesFronts, leaf_where, located_where, passing}
pub use Rattle.art_arena.specs.arena.EndLeaves.{IsLeafPlace, end_child, end_slot}
pub use Rattle.art_arena.specs.arena.Found.{IsAtKey, Located, found_in, located, located_in, located_with_key, pair_of}
pub use Rattle.art_arena.specs.arena.Lends.{with_leaf_value, with_value_in}
pub use Rattle.art_arena.specs.arena.Linked.{AreHalves, AreLinked, CanLink, IsBeside, IsList, KeepsLinksOutside, KeepsOtherLinks, Links, first_slot, last_slot, times}
pub use Rattle.art_arena.specs.arena.Meaning.{IsAtDepth, IsNodesBeside, IsPart, IsSubtree, IsTreeBeside, Means, MeansBeside}
pub use Rattle.art_arena.specs.arena.Places.{IsPlace}
pub use Rattle.art_arena.specs.arena.Prefixes.{Mismatches, prefix_of}
pub use Rattle.art_arena.specs.arena.Reads.{IsReadAt, IsVisitedAt, KeysWithin, ReadsAtLeast, ReadsExactly, ReadsToFirst, guide_cost, unguided}
pub use Rattle.art_arena.specs.arena.Rooms.{FreesRoomOf, SameLeaves, UsesRoomOf}
pub use Rattle.art_arena.specs.arena.Shapes.{AreUnder, Branches, IsBranch, IsUnder, LeafAt, Shape, branch, cells, cells_in, children_at, erase, erase_in, inner_at, join, key_of, leaf_at, leaves, leaves_in, name_of, no_branch, node_of, pairs_of, width}
pub use Rattle.art_arena.specs.arena.Steps.{Step, steps_of, steps_to}
pub use Rattle.art_arena.specs.arena.Stores.{IsMeant, Stores, StoresAt, StoresBelow, StoresBeside, StoresOnly}
pub use Rattle.art_arena.specs.arena.Visited.{count_of, held_of}
pub use Rattle.art_arena.specs.declared.ends.End.{End}
pub use Rattle.art_arena.specs.declared.ends.End.TheVariants.{First, Last}
pub use Rattle.art_arena.specs.tree.Changes.{IsIn, IsPutIn, is_before, put_in_order}
pub use Rattle.art_arena.specs.tree.Fronts.{byte_after, bytes_after, distinct, fronts_of, fronts_with, meetings_of, neighbour_fronts, width_of}
pub use Rattle.art_arena.specs.tree.Kinds.{ChangesKind, IsKindOf, IsLimit}
pub use Rattle.art_arena.specs.tree.Landing.{EndsInConflict, Landing, begins_all, differs, ends, lacks_child, landing, landing_in, on_leaf, pass, passes, splits_prefix}
pub use Rattle.art_arena.specs.tree.Order.{AreInOrder, AscendsByKey}
pub use Rattle.art_arena.specs.tree.Paths.{last_leaf, look_up_in, look_up_path, path_in, path_of}
pub use Rattle.art_arena.specs.tree.Shrinks.{IsCrossing, IsMeeting, Shrinks, one_fewer, one_if}
pub use Rattle.art_arena.specs.tree.Tenants.{begins_with, crossings, with_front, without_front}
pub use Rattle.art_arena.specs.tree.TreeOf.{Group, add_to, children_of, grouped, tree_below, tree_of}
pub use Rattle.art_arena.specs.tree.Ways.{compared_on, descent_reads, end_path, end_path_in, guide_reads, is_cut, last_or, last_path_in, led_on, path_to_guide, prefix_reads, way_end, way_in, way_of}
pub use Rattle.art_arena.specs.tree.Trees.{AreCanonical, Forest, IsBelow, IsCanonical, Tree, child, count, inner, items, items_in, leaf, no_child, nodes_in, nodes_with}
