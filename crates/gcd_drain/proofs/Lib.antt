pub mod Placed
pub mod Still
pub mod ShutChains
pub mod Starts
pub mod Holding
pub mod Noting
pub mod HeldAfter
pub mod Quiet
