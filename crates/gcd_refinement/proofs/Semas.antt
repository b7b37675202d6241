pub mod WaitRooms
pub mod Ranks
pub mod Ends
