pub mod Books
pub mod Literals
pub mod Outlooks
pub mod Proper
pub mod Refusals
pub mod Stores
pub mod UnitRule
