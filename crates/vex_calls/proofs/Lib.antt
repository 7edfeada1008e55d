mod Computed
pub mod Opcodes
pub mod Reading
