pub mod Permission
pub mod LeastSettings
pub mod Laws
