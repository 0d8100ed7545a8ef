pub mod Commit
pub mod Laws
pub mod Order
pub mod Plan
pub mod Seen
pub mod Source
pub mod Step
pub mod Truth
