pub mod Standard
pub mod Canon
pub mod Assembly
pub mod Encode
pub mod Recode
pub mod Conditions
pub mod Laws
pub mod Sweep
