pub mod Order
pub mod AllSpellings
pub mod Choices
pub mod Laws
pub mod Next
pub mod Sets
