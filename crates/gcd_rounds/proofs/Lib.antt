pub mod AtPlaces
pub mod EndsKept
pub mod Given
pub mod Grown
pub mod Ready
pub mod Taken
pub mod Zips
mod Rans
