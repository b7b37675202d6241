pub mod FirstLines
pub mod Parts
mod Decimals
mod FirstPlaces
mod Pieces
