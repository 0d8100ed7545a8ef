pub mod Faults
pub mod Laws
pub mod Packet
pub mod Reading
pub mod Rtcp
pub mod View
