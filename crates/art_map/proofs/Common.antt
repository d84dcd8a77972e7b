-- What proofs above this crate name of it, from one place: its words and its lemmas.
pub use Rattle.art_map.proofs.Terms.{AreCutVisits, Contents, HasGathered, IsMadeOf, IsTryRefused, ShrinksAtCut, audit_of, cut_visits, ended, entry_key, first_item, from_end, has_bytes, kept_value, last_item, last_value, left_of, map_of, pairs_between, with_pairs_put}
pub use Rattle.art_map.proofs.FoundAfter.{found-inserted, found-removed}
pub use Rattle.art_map.proofs.AfterChanges.{found-all-put, found-retained, found-written}
pub use Rattle.art_map.proofs.PairChanges.{first-pair-least, in-cut, in-inserted, in-inserted-all, in-over, in-removed, in-retained, in-written, last-pair-greatest, long-cut, long-inserted, long-inserted-all, long-over, long-removed, long-retained, long-written, pair-by-front, pair-by-key}
pub use Rattle.art_map.proofs.SortedItems.{ascends-filter}
pub use Rattle.art_map.proofs.EndedKeys.{ended-found, ended-inserted, ended-removed, ended-same}
pub use Rattle.art_map.specs.PairLaws.{StandsLast, has_key, keys_added}
