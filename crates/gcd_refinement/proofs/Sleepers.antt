pub mod NewlyParked
pub mod Callers
pub mod Parked
pub mod Kinds
pub mod LetGo
pub mod Strips
pub mod Nowhere
