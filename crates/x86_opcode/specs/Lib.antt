pub mod Number
pub mod Name
pub mod Slots
pub mod Constants
pub mod Condition
pub mod Mark
pub mod Vex
