pub mod Extended
pub mod Index
pub mod Octets
pub mod OptionChain
pub mod Pictures
pub mod ResultChain
