pub mod Text
pub mod Errors
pub mod Laws
pub mod Written
pub mod Parsed
pub mod Line
pub mod Assembly
