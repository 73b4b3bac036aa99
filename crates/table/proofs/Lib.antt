pub mod Alike
pub mod Closed
pub mod Computed
pub mod Narrowed
pub mod Rows
pub mod Tries
pub mod Writing
