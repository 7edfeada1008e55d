pub mod Features
pub mod Needs
pub mod Processors
pub mod Laws
