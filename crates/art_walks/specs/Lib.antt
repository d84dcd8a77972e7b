pub mod Runs
pub mod Stats
pub mod Faults
pub mod Visits
pub mod inner
pub mod Walked
pub mod Bounds
pub mod MapReads
