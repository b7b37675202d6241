pub mod Merged
pub mod FeedsDie
pub mod Totals
