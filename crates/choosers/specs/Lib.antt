pub mod Choices
pub mod Flags
pub mod Found
pub mod Orders
pub mod Standing
