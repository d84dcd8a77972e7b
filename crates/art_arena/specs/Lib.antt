pub mod tree
pub mod arena
pub mod Laws
pub mod inner
pub mod lemmas
