-- What proofs above this crate name of it, from one place: its words and its lemmas.
pub use Rattle.art_engine.proofs.Terms.{full_pair}
