pub mod Sums
pub mod Quantifiers
pub mod Places
pub mod Options
pub mod Mapped
pub mod Apart
pub mod Walks
pub mod MadeBlocks
pub mod Submits
pub mod Needed
pub mod Spans
pub mod Valid
mod Having
mod NamesApart
mod Named
mod Submitted
mod Broken
mod Planned
pub mod Strips
pub mod Within
pub mod Numbered
pub mod Folded
