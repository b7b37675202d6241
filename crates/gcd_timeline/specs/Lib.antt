pub mod Marks
pub mod Standings
