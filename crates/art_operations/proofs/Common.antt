-- What proofs above this crate name of it, from one place: its words and its lemmas.
pub use Rattle.art_operations.proofs.Terms.{AreClones, AreEndsWhere, Builds, BuildsTo, CanPut, CanPutOver, ForLongest, FreesLeaves, HasCut, HasInnerRoom, HasKey, HasKeyAt, HasLeaves, HasLeavesOf, HasMoved, HasPairs, HasPairsWhere, HasPut, HasPutIn, HasPutOver, HasRoomAbove, HasRoomAround}
pub use Rattle.art_operations.proofs.Terms.{HasRoomBeside, HasTaken, HasTakenEnd, HasTreeWhere, HoldsInOrder, HoldsTreeOf, IsAmong, IsAtEnd, IsBlocked, IsCutBeside, IsDeletedBeside, IsEmptySpine, IsForConflict, IsPairRefused, IsPlaceFor, IsPlaced, IsPoint, IsSubtreeAnswer, IsSubtreePoint}
pub use Rattle.art_operations.proofs.Terms.{KeepsCells, KeepsInnerRoom, KeepsLeavesOf, OfTree, OfTreeWhere, OpeningReads, ReadsAtLeast, ShrinksAtEnd, ShrinksWithout, SpanReads, StandsAhead, StandsBetween, StandsInList, inner_cells, leaves_with, node_count, overlapping, overlaps, pair_in}
pub use Rattle.art_operations.proofs.Terms.{landed_leaf, removed_by, takes_key, with_key, with_pair_over, with_pair_put, without_key, without_overlapping}
pub use Rattle.art_operations.proofs.Building.{fresh}
pub use Rattle.art_operations.proofs.HeldPairs.{leaves-pairs, pairs-same, pairs-tree, tree-same}
pub use Rattle.art_operations.proofs.KeyedLists.{all-but-none, before, following, nothing_taken, put_new, put_replaced, stored-free, taken}
pub use Rattle.art_operations.proofs.LeafListsOrdered.{ahead-of, in-order, inner-kept, inner-kept-of, left-in-order}
pub use Rattle.art_operations.proofs.LeafNames.{among-all, leaf-of, same-names}
pub use Rattle.art_operations.proofs.LeafPairs.{held_leaf, leaf_pair, pairs-parts, pairs_ascend, shrinks-map, shrinks-unmap, stored_in, taken_pair, width_of-map, without-shrinks}
pub use Rattle.art_operations.proofs.NamedLeaves.{bytes-held, held-some, leaf-held, pair-held}
pub use Rattle.art_operations.proofs.Nearest.{turned}
pub use Rattle.art_operations.proofs.Overlaps.{before_no_overlap, after_no_overlap, overlaps_conflict, overlaps_same}
pub use Rattle.art_operations.proofs.RangeEnds.{tree_ascends}
pub use Rattle.art_operations.proofs.Results.{from_err, from_ok, map_ok, on-err}
pub use Rattle.art_operations.proofs.Spines.{last-same}
pub use Rattle.art_operations.proofs.Stretches.{IsConvex, between_convex, from_later, front_convex, leaves_ascend, stretch}
pub use Rattle.art_operations.proofs.Unmade.{around-room, fresh-around}
pub use Rattle.art_operations.proofs.WrittenValues.{written}
