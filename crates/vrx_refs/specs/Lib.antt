pub mod Finder
pub mod Kept
pub mod Knows
pub mod Laws
pub mod Met
pub mod References
pub mod View
