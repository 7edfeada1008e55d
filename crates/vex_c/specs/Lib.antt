pub mod Answers
pub mod Decoding
pub mod Encoding
pub mod Runs
pub mod Texts
