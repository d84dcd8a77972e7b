pub mod ChildIter
pub mod Mask
pub mod Place
pub mod Replayed
pub mod Sorted
pub mod Table
