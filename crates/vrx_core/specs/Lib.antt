pub mod machine
pub mod relation
pub mod honest
pub mod inside
