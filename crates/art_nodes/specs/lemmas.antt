-- Lemmas that sources cite: the laws of traits, and facts that ghost code names.
pub mod KindLaws
pub mod NameLaws
