mod Issuing
pub mod Placing
mod Dealing
mod Benching
mod Opening
mod Assembling
