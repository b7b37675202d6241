pub mod ListsView
pub mod Links
pub mod Codes
