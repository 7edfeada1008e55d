pub mod Needs
pub mod Accepted
pub mod FirstPlaces
