pub mod Followed
pub mod Going
pub mod Ran
pub mod Recorded
pub mod Rushed
