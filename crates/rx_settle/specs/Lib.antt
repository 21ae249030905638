-- Settling: the steps that a search takes without a choice.
pub mod Advances
pub mod Answers
pub mod AtFirst
pub mod Candidates
pub mod Certified
pub mod Known
pub mod Reached
pub mod Settling
pub mod TaskAnswers
pub mod Tasks
pub mod Untaken
pub mod Uses
