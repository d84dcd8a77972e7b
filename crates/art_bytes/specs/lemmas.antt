-- Lemmas that sources cite: the laws of traits, and facts that ghost code names.
pub mod AddressLaws
pub mod ConcatLaws
pub mod FixedLaws
pub mod FlipLaws
pub mod KeyLaws
pub mod NumberLaws
pub mod PairLaws
pub mod PartLaws
