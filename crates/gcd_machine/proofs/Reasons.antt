pub mod Starts
pub mod Misuses
pub mod First
