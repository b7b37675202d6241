pub mod Registered
pub mod Unregistered
pub mod StripBlocks
