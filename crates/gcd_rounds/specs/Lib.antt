pub mod Handing
pub mod Kept
pub mod Ran
pub mod Running
