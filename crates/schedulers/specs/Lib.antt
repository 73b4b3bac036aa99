pub mod Bounds
pub mod Lanes
pub mod Lines
pub mod Marks
pub mod Queues
pub mod Rings
pub mod Rounds
pub mod Turns
