pub mod OwnEvents
pub mod Taking
pub mod Following
pub mod Cancelled
pub mod Cells
pub mod Holders
