-- The words of this crate that its proofs and those above name, from one place.
pub use Rattle.art_map.specs.Asked.{AnswersAt, AreMet, Asking, CallableFromEnds, CanExtractIf, ComesOf, Extracts, StopsAt, asking, extract_map, from_end, taken_by, with_pairs_put}
pub use Rattle.art_map.specs.Audit.{audit_of}
pub use Rattle.art_map.specs.Builders.{GathersWith, HasGathered, HasGatheredInOrder, HasRoomLeft, KeepsRoomLeft, nodes_of}
pub use Rattle.art_map.specs.Bulk.{ExtendsWith, HandsNextBack, IsFirstOfList, IsMadeOf}
pub use Rattle.art_map.specs.Changes.{IsTryRefused}
pub use Rattle.art_map.specs.Contents.{Contents, HasLeafAt, IsMap, IsUntouched, contents, entry_in, first_item, found_pair, has_bytes, last_item, marked_pair, option_value, pairs_below, pairs_from, pairs_in, pairs_under}
pub use Rattle.art_map.specs.Entries.{IsEntryOf, IsSame, IsWritten, Vacant, entry_key, entry_pairs, entry_value, option_key, pairs_without, unwrapped, with_entry_value}
pub use Rattle.art_map.specs.Extractions.{left_of, map_of}
pub use Rattle.art_map.specs.Found.{HasPairAt, HasPairUnder, IsAt, IsFound, has_leaf, is_held, leaf_pair, pair_under, still_held, stored_slot}
pub use Rattle.art_map.specs.Laws.{ended, kept_value, last_value}
pub use Rattle.art_map.specs.LeafNames.{AddsNoLeaf, AreNamed, KeepsAllLeaves, KeepsLeaves}
pub use Rattle.art_map.specs.Leaves.{AreLeaves, IsNextAt, IsRun, with_end}
pub use Rattle.art_map.specs.Lends.{with_value_at}
pub use Rattle.art_map.specs.LentRuns.{IsRunIn, left_at, run_pairs, slot_at, with_lent_value}
pub use Rattle.art_map.specs.Overlapped.{IsLoneAt, lone_item, overlaps_query}
pub use Rattle.art_map.specs.PrefixBlocks.{AreCutVisits, Block, IsFoundPart, IsPrefixPart, IsReadyPart, ShrinksAtCut, cut_reads, cut_visits}
pub use Rattle.art_map.specs.PrefixEntries.{Inner, IsInnerWritten, IsOccupiedFilled, IsOccupiedWritten, IsShownWritten, Leaf, kind_at, occupied_kind, occupied_value, prefix_key, prefix_pairs_with, prefix_value}
pub use Rattle.art_map.specs.Ranges.{pairs_between}
pub use Rattle.art_map.specs.Walked.{IsWalkOf}
pub use Rattle.art_map.specs.declared.map.entry.OccupiedEntry.{OccupiedEntry}
pub use Rattle.art_map.specs.inner.Asks.{IsAsked, asking_by}
pub use Rattle.art_map.specs.lemmas.LentSteps.{RunParted, at-end, counted_left, counted_unwritten, end-long, keeps-others, left-counted, no-run, parted, run-end, slot-end, still_left, still_unwritten, stored-end, AtEnd}
