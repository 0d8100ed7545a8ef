pub mod Faults
pub mod Memory
pub mod Reads
pub mod Sink
pub mod Source
pub mod Standard
