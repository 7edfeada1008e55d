pub mod InPlace
pub mod LaneLemmas
pub mod Padded
pub mod Running
pub mod Repeating
pub mod Suiting
pub mod SubsetRows
mod Computed
