pub mod BothEnds
