pub mod Steps
pub mod Conditions
pub mod Views
pub mod Reasons
pub mod Choice
