pub mod Names
pub mod Changes
pub mod Taken
pub mod Bodies
pub mod Asked
pub mod Agreement
pub mod Refusals
pub mod Chains
