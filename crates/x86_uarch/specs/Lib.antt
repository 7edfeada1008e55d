pub mod Amd
pub mod Intel
pub mod Profiles
