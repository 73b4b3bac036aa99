pub mod Looking
pub mod Naming
pub mod Numbered
pub mod Putting
pub mod Stand
pub mod Struck
