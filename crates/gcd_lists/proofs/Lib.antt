pub mod Places
pub mod Chains
pub mod Held
pub mod Changes
pub mod Backs
pub mod Leaves
pub mod Spans
pub mod Seen
