pub mod Narrowing
pub mod Waking
