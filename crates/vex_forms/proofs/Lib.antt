pub mod SizesFit
pub mod Choices
pub mod Shaping
pub mod ByW
pub mod Choosing
pub mod Fit
mod Adding
mod MeaningGiven
pub mod Operating
pub mod Instructing
pub mod Telling
