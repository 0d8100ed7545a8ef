pub mod Compound
pub mod Fault
pub mod Feedback
pub mod Field
pub mod Laws
pub mod Packet
pub mod View
