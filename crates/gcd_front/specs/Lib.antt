pub mod Limits
pub mod Queue
pub mod Notes
pub mod Views
pub mod Shapes
pub mod Fronts
