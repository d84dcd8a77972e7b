-- What proofs above this crate name of it, from one place: its words and its lemmas.
pub use Rattle.art_set.proofs.Terms.{is_member, with_key_put}
