pub mod Ranges
pub mod OneWord
pub mod Numbers
pub mod Shown
pub mod Passing
pub mod Without
pub mod Least
pub mod Nodes
