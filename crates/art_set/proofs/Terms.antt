-- The words of this crate that its proofs and those above name, from one place.
pub use Rattle.art_set.specs.Asked.{AnswersForKey, AskingKeys, CallableOnEachKey, CanExtractKeys, ExtractsKey, KeysComeOf, StopsAtKey, asking_keys, extract_set}
pub use Rattle.art_set.specs.Members.{KeyShrinksAtEnd, is_member, key_if_some, keys_between, with_key_put, with_keys_put}
pub use Rattle.art_set.specs.Merges.{AscendsInBytes, GivesNext, Merge, comparisons_of, difference_of, has_not_below, put_among, put_below}
pub use Rattle.art_set.specs.inner.Merging.{Beside, IsCompared, keys_left, merge_of, merged, merging, of_first, of_second, steps_left}
pub use Rattle.art_set.specs.lemmas.KindLaws.{filter-none, filter-same}
