pub mod Keeps
pub mod Transcript
pub mod Inspection
