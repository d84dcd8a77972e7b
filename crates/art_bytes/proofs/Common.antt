-- What proofs above this crate name of it, from one place: its words and its lemmas.
pub use Rattle.art_bytes.proofs.Terms.{BeginsWith, BeginsWith-same_length, Conflict, IsBefore, IsProperFront, before_zero, big_endian, bytes_cmp, common_prefix, conflicts, flipped, is_below, is_proper_front, pair_key, shared_prefix, top_bit}
pub use Rattle.art_bytes.proofs.Conflicts.{conflict_told, told_conflict}
pub use Rattle.art_bytes.proofs.Order.{before_at, before_cmp, before_not_self, before_trans, begins_append, begins_from_step, begins_step, cmp_before, common_apart, common_begins, common_front, conflict_first, conflict_not_before, conflict_second, conflict_turned, front_not_after}
pub use Rattle.art_bytes.proofs.Order.{front_not_before, shared_begins, shared_parts}
