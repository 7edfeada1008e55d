pub mod Bits
pub mod Sets
pub mod Settings
pub mod Composites
pub mod SetterAndGetter
pub mod Words
