pub mod Joining
pub mod Meaning
pub mod Octet
pub mod Part
pub mod View
