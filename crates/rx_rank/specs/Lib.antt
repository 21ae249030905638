-- Which rank tables the ranking finds: for each component of the graph of pairs the first fit
-- choice of polynomials.
pub mod Answers
pub mod Candidates
pub mod Choices
pub mod Components
pub mod Memo
pub mod Numbers
pub mod PairTests
pub mod Ranking
pub mod Tries
