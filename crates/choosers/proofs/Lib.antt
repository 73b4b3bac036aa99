pub mod Finding
pub mod Ordered
