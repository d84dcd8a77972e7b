-- The words of this crate that its proofs and those above name, from one place.
pub use Rattle.art_operations.specs.Bounds.{AreEndsWhere, slot_inside}
pub use Rattle.art_operations.specs.Builders.{Builds, BuildsTo, BuildsUpTo, IsAfterAll, HasRoomBeside, HasRoomToPush, IsPushRefused}
pub use Rattle.art_operations.specs.Commands.{AreAnswered, IsAnswered, after, clones_in, pairs_after, with_clone}
pub use Rattle.art_operations.specs.DeletePoints.{IsLeafPlace}
pub use Rattle.art_operations.specs.Deletions.{HasLeaves, HasLeavesBeside, IsAmong, IsDeletedBeside}
pub use Rattle.art_operations.specs.Frees.{FreesLeaves, HoldsBeside, HoldsInnerBeside, HoldsRun, KeepsAllBut, SwapsLeaves, cells_with, cells_with_in, inner_cells, leaf_cells}
pub use Rattle.art_operations.specs.Insertions.{IsForConflict, IsInsertedBeside, IsPairRefused, IsPutOrReplaced, IsReplaced}
pub use Rattle.art_operations.specs.KeyedLists.{HasKey, IsBlocked, overlapping, overlaps, with_key, without_key, without_overlapping}
pub use Rattle.art_operations.specs.LeafCursors.{HasInserted, HasMoved, HasPutIn, HasRemoved, KeepsCells, KeepsInnerRoom, StandsAhead, StandsAtPlace, StandsBelow, StandsBetween, StandsInList}
pub use Rattle.art_operations.specs.LeafNames.{HasKeyAt, HasLeavesOf, KeepsLeavesOf}
pub use Rattle.art_operations.specs.Lookups.{landed_leaf, takes_key}
pub use Rattle.art_operations.specs.Marked.{FindsMarked, longest_marked, marked_key, option_or}
pub use Rattle.art_operations.specs.Meetings.{PartAt}
pub use Rattle.art_operations.specs.NodeCounts.{node_count, nodes_counted}
pub use Rattle.art_operations.specs.Openings.{ForLongest, OpeningReads, PlaceReads, ReadsAtLeast, ReadsExactly, SpanReads, beside_reads, bound_reads, end_reads, ends_reads, first_above, near_reads, part_reads, place_reads, range_reads}
pub use Rattle.art_operations.specs.Overwrites.{AreRemoved, IsExact, IsOverwrittenBeside, IsPrefixPoint, removed_by, root_at, steps_at}
pub use Rattle.art_operations.specs.Pairs.{CanPut, CanPutOver, HasCut, HasPairs, HasPairsBeside, HasPairsWhere, HasPut, HasPutOver, HasTaken, HasTakenEnd, IsAtEnd, IsPlaceFor, IsPlaced, IsSubtreeFor, ShrinksAtEnd, pair_in, with_pair_over, with_pair_put}
pub use Rattle.art_operations.specs.Points.{AllConflict, HasConflict, IsInTheWay, IsPoint, MeetsAt, NoConflict}
pub use Rattle.art_operations.specs.Rebuilds.{HasInnerRoom, HoldsInOrder, KeepsLeafRoom}
pub use Rattle.art_operations.specs.Runs.{AreClones, HoldsClonesOf, HoldsTreeOf, IsCloned}
pub use Rattle.art_operations.specs.Subtrees.{CanLoseChild, HasRoomAbove, IsCutBeside, IsPartPlace, IsSubtreeAnswer, IsSubtreePoint, ShrinksWithout, leaves_with, leaves_without}
pub use Rattle.art_operations.specs.Whichever.{FindsLeaf, HasTreeWhere, OfEach, OfTree, OfTreeWhere}
pub use Rattle.art_operations.specs.declared.build.TreeBuilder.{TreeBuilder}
pub use Rattle.art_operations.specs.declared.build.spine.Open.{Open}
pub use Rattle.art_operations.specs.declared.build.spine.Spine.{Spine}
pub use Rattle.art_operations.specs.declared.delete.result.DeleteResult.{DeleteResult}
pub use Rattle.art_operations.specs.declared.delete.subtree.SubtreeDeletePoint.{SubtreeDeletePoint}
pub use Rattle.art_operations.specs.declared.delete.subtree.SubtreeDeleteResult.{SubtreeDeleteResult}
pub use Rattle.art_operations.specs.declared.insert.point.InsertKind.{InsertKind}
pub use Rattle.art_operations.specs.declared.insert.point.InsertPoint.{InsertPoint}
pub use Rattle.art_operations.specs.declared.insert.result.InsertParentNodeChange.TheVariants.{NewParent, NoChange}
pub use Rattle.art_operations.specs.declared.insert.result.InsertRefused.{InsertRefused}
pub use Rattle.art_operations.specs.declared.insert.result.InsertResult.{InsertResult}
pub use Rattle.art_operations.specs.declared.leaf_list.LeafCursor.{LeafCursor}
pub use Rattle.art_operations.specs.declared.meeting.Parted.{Parted}
pub use Rattle.art_operations.specs.declared.prefix_insert.result.PrefixInsertResult.{PrefixInsertResult}
pub use Rattle.art_operations.specs.declared.running.Answer.{Answer}
pub use Rattle.art_operations.specs.declared.running.Answer.TheVariants.{Done, Prefix}
pub use Rattle.art_operations.specs.declared.running.Command.TheVariants.{Clone, Delete, Insert, PrefixInsert}
pub use Rattle.art_operations.specs.inner.Cursors.{HasMovedOne, HasPassed, HasReplaced, HasStoredLast, HoldsFrom, IsListTo, StandsParted, StopsAfterLess}
pub use Rattle.art_operations.specs.inner.Detached.{IsApart, IsChildPart, IsDetached, IsHeldAt, StandsFor}
pub use Rattle.art_operations.specs.inner.Edits.{AllocatesBoth, IsLastOf, StandsAround, lone_leaf}
pub use Rattle.art_operations.specs.inner.Freeing.{AreFirst, FreesRoot, HoldsBoth, HoldsOneLess, HoldsPart, IsBottom, IsChildIn, IsChildless, step_in}
pub use Rattle.art_operations.specs.inner.MarkedEnds.{EndsAmong, EndsAt, IsDeepest, IsMarked, IsMarkedBy, IsMarkedChild, NoneMarked}
pub use Rattle.art_operations.specs.inner.Meetings.{Meets}
pub use Rattle.art_operations.specs.inner.Nearest.{Compare, IsNearest, bound_at, takes}
pub use Rattle.art_operations.specs.inner.Rebuilding.{CanPass, CanPassAt, HasNodeRoom, HasPlaces, HasSpineRoom, IsFresh, RebuildsUpTo}
pub use Rattle.art_operations.specs.inner.Removals.{EditsNode, IsOther, Lengthens, LosesKind, Moves, PutsBack, lengthened}
pub use Rattle.art_operations.specs.inner.Runs.{HasClones, IsExecuted, IsDone}
pub use Rattle.art_operations.specs.inner.Spines.{AddsChild, AreOpen, HasSpine, IsEmptySpine, IsOpen, IsSpine, Level, begin, begin_of, inner_over, open_at, open_cells, open_children, open_leaves, opened}
pub use Rattle.art_operations.specs.inner.Splits.{IsBetween, IsEnd, PartsFrom, root_cell, split_node, trimmed, with_prefix}
pub use Rattle.art_operations.specs.inner.Unmade.{HasRoomAround, kind_over, noted_before, one_of, unmade}
pub use Rattle.art_operations.specs.inner.Waiting.{AreNeighbours, AwaitsLeaf}
pub use Rattle.art_operations.specs.inner.SearchEnds.{EndsInside, IsEndAtInner, IsEndAtLeaf, IsEndAt, IsPlaceAt, IsSearchEnd, result_at, met_by, point_at}
