pub mod StdEnds
pub mod Gatherer
