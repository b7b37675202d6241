pub mod TargetActs
pub mod Stands
pub mod MovesAlone
