pub mod Index
pub mod Opcodes
pub mod SizePlaces
