mod Computed
pub mod Candidate
pub mod Standard
pub mod Canon
pub mod CanonLaws
pub mod Conditions
pub mod Search
pub mod Entries
pub mod PassedOver
pub mod Excluded
pub mod Addresses
pub mod Asked
pub mod Fitting
pub mod Written
pub mod Recoding
pub mod Sweeping
