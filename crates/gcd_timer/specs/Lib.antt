pub mod TimersView
pub mod Intervals
pub mod Listed
