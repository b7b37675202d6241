pub mod StartedOnce
pub mod CancelledStays
pub mod SubmittedOnce
pub mod InOrder
pub mod SubmittedOnNodes
pub mod CancelledBlocks
pub mod NotifiedOnce
pub mod Uncancelled
