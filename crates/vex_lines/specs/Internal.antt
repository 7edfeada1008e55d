-- Definitions that private functions alone cite, which nobody has to believe.
pub mod Stops
pub mod LineMachine
pub mod Run
pub mod Totals
