pub mod Ends
pub mod Statuses
pub mod Always
pub mod Hands
