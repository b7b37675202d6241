pub mod OpenIntake
pub mod Spans
pub mod IntakeBlocks
pub mod AcceptedInOrder
pub mod StripsRun
pub mod AcceptsStay
