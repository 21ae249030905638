-- Whether trees are found that cover a rule set, and what the trees that are found are like.
pub mod Answers
pub mod Coverable
pub mod Coverage
pub mod Example
pub mod Trees
