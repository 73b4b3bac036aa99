pub mod Refusals
pub mod Telling
pub mod Words
