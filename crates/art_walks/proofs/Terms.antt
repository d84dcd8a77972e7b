-- The words of this crate that its proofs and those above name, from one place.
pub use Rattle.art_walks.specs.Faults.{FaultMeansNoTree, HasDeadName, HasLoop, HasOtherKeys, HasOtherLinks, HasWrongCount, Stands, child_in, led_to, onward}
pub use Rattle.art_walks.specs.MapReads.{IsSameMap, IsSpan, IsSpanOf, PairsWithin, ReadsPairs, ReadsTree, look_up_reads, of_tree}
pub use Rattle.art_walks.specs.Runs.{Ends, HasEnds, IsWalk}
pub use Rattle.art_walks.specs.Stats.{AreCounts, in_range, no_nodes}
pub use Rattle.art_walks.specs.Walked.{AreStored, IsCounted, IsRest, ends_after, leaves_left, pairs_along, pairs_left, pairs_with, run_length, start_of}
pub use Rattle.art_walks.specs.declared.checker.keys.Place.{Place}
pub use Rattle.art_walks.specs.declared.malformed.MalformedTreeError.{MalformedTreeError}
pub use Rattle.art_walks.specs.declared.malformed.MalformedTreeError.TheVariants.{DeadName, EmptyTreeWithLen, LeafSiblingWrongOrder, LoopFound, Memory, PrefixMismatch, WrongChildrenCount, WrongSiblingLinks}
pub use Rattle.art_walks.specs.inner.Fillings.{Await, ChildFits, FitAt, FitBelow, FitIn, Fits, HasShape, LeafHasKey, Opens, StandsAsTold, first_key, first_key_in, placed}
pub use Rattle.art_walks.specs.inner.Names.{AreOnce, IsMiscounted, IsOpened, count_kind, has_name, meets}
pub use Rattle.art_walks.specs.inner.Skeletons.{HasKinds, HaveKinds, IsSkeleton, cell_names}
pub use Rattle.art_walks.specs.inner.Slots.{AreLinkedSlots, leaf_slots, with_slot}
