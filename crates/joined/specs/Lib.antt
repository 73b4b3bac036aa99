pub mod Places
pub mod Proper
