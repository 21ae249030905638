-- Rewriting a side of a goal: moves, what comes of trying one, and which are tried at a redex.
-- The longest common suffix of two terms.
pub mod Answers
pub mod LoopPoints
pub mod Moves
pub mod Outcomes
pub mod Parts
pub mod RuleSteps
pub mod SuffixAnswers
pub mod Suffixes
pub mod Trying
pub mod Unfolding
