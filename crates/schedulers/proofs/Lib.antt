pub mod Marking
pub mod Queueing
pub mod Rounds
pub mod Serving
pub mod Waits
