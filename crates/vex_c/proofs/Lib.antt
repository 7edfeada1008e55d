pub mod Filled
pub mod Decoded
pub mod Named
pub mod Running
pub mod Told
