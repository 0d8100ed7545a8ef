pub mod Asks
pub mod IsAsks
pub mod Kept
pub mod KeyAsk
