pub mod Bits
pub mod Places
pub mod Runs
pub mod Accepting
pub mod Noting
pub mod Checking
pub mod Covering
mod Computed
