pub mod Lists
pub mod Shares
pub mod Journal
pub mod Seats
pub mod inside
