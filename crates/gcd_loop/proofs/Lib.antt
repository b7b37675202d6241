pub mod Events
pub mod Follows
pub mod Rushes
pub mod Goings
pub mod Steps
