pub mod DrainsView
pub mod Rule
pub mod Shut
pub mod Held
