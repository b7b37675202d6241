pub mod Lists
pub mod Permitted
pub mod MadeBlocks
mod Rows
pub mod Runs
pub mod Blocks
pub mod Sums
pub mod Public
pub mod Sources
pub mod Waits
pub mod Walks
pub mod Tree
pub mod WordsBegin
pub mod Counts
pub mod HeldRuns
