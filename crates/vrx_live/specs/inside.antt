-- What a worker leaves after each call, and how texts come to their places.
pub mod Worker
pub mod Placed
pub mod End
