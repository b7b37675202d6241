mod AnswerLemmas
mod FeedLemmas
pub mod TellLemmas
mod TextLemmas
pub mod ToldLemmas
