pub mod Orders
pub mod Telling
