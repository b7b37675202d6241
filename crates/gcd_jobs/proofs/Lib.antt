pub mod ValuesMore
pub mod StripValues
pub mod Pieces
