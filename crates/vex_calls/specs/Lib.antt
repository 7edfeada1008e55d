pub mod Registers
pub mod Operands
pub mod Instructions
pub mod Encodings
pub mod Errors
pub mod Settings
