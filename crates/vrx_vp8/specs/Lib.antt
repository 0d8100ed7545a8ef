pub mod Descriptor
pub mod IsDescriptor
pub mod Joining
pub mod Laws
pub mod OneDescriptor
pub mod View
pub mod Writing
