pub mod Lawful
pub mod Reasons
pub mod Fitting
pub mod Choices
pub mod Quiet
pub mod OneState
pub mod NotEmpty
