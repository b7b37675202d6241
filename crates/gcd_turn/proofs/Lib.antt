mod Expiries
mod LaterSteps
pub mod FeedSteps
pub mod HeardPolls
pub mod HeardSteps
pub mod HistoryMore
pub mod NewsLemmas
pub mod PollSteps
pub mod Promised
pub mod TimeLemmas
pub mod TimeSteps
