pub mod Draws
pub mod Drill
pub mod Frames
pub mod Laws
pub mod Made
pub mod Packets
pub mod View
