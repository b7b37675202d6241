pub mod Writes
pub mod Kept
pub mod Among
pub mod Places
