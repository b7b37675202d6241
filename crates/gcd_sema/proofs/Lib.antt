pub mod NoWaits
mod Waits
mod Ranges
mod Cells
mod Fresh
