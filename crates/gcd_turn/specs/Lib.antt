pub mod Asked
pub mod Hearing
pub mod Named
pub mod Outsides
pub mod Promises
pub mod Times
pub mod Timing
pub mod Turns
