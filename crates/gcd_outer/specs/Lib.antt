pub mod Answers
pub mod Feeds
pub mod InMemory
pub mod Outside
pub mod Pages
pub mod Planned
pub mod Tells
pub mod Texts
