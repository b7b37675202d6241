pub mod Expiries
pub mod Expiring
pub mod DueTimes
pub mod NextDue
