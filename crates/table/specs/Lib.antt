pub mod Left
pub mod Narrowing
pub mod Proper
pub mod Refusals
pub mod Relations
pub mod Rules
pub mod Tables
