-- What no public clause cites: the types and the steps of the engine's own functions.
pub mod Seen
pub mod Places
pub mod Step
pub mod Joins
pub mod Fields
pub mod Wants
