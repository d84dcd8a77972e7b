-- What proofs above this crate name of it, from one place: its words and its lemmas.
pub use Rattle.art_walks.proofs.Terms.{AreCounts, AreStored, Ends, HasEnds, IsCounted, IsSameMap, IsSpan, IsSpanOf, IsWalk, PairsWithin, ReadsPairs, Stands, in_range, leaves_left, no_nodes, pairs_left, start_of}
pub use Rattle.art_walks.proofs.RunLengths.{measured, recounted, run-pairs}
pub use Rattle.art_walks.proofs.Spans.{all-filter, ends-walk, span-in}
