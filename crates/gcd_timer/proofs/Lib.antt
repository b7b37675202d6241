pub mod Numbers
pub mod Steps
pub mod Views
pub mod Nexts
pub mod Marks
