pub mod Lists
pub mod Elements
pub mod Ranges
pub mod Options
pub mod Truth
