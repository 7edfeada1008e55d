pub mod Reader
pub mod SliceReader
pub mod Sink
