pub mod Limits
pub mod Tokens
pub mod Places
pub mod Drains
pub mod Deques
pub mod Racks
pub mod Making
