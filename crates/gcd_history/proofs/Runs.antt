pub mod Open
pub mod FreeAtStart
pub mod OneRun
pub mod OpenNodes
pub mod Alone
pub mod OpenOnce
pub mod BlocksApart
