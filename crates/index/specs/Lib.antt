pub mod Gathering
pub mod Indexes
