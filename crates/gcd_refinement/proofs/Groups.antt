pub mod Members
pub mod Moves
pub mod NotifyQueues
pub mod Sleepers
pub mod NoCount
pub mod Emptied
pub mod Asleep
