pub mod Steps
pub mod Wakes
