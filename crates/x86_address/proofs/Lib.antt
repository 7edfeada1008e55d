pub mod Examples
pub mod Spelling
pub mod Units
pub mod Encodable
pub mod Naming
pub mod Completing
pub mod Taken
