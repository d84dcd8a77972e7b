-- The words of this crate that its proofs and those above name, from one place.
pub use Rattle.art_bytes.specs.Keys.{AreBytes, BeginsWith, Conflict, IsBefore, IsProperFront, agreeing, bytes_cmp, common_prefix, conflicts, is_below, is_proper_front, shared_prefix}
pub use Rattle.art_bytes.specs.Laws.{pair_key}
pub use Rattle.art_bytes.specs.Numbers.{big_endian, flipped, top_bit}
pub use Rattle.art_bytes.specs.lemmas.KeyLaws.{AreBytes-by_index, BeginsWith-same_length, before_zero, none_is_zero, some_is_zero}
