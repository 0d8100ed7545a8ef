pub mod Laws
pub mod Red
pub mod Rtx
pub mod View
