pub mod Words
pub mod Statuses
pub mod Told
pub mod Judging
pub mod Always
