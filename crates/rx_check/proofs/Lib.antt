-- The checks of a log in turn, and what an accepted log is.
pub mod Kept
pub mod Proofs
pub mod Logs
pub mod Turns
pub mod Pairs
pub mod Sound
pub mod LineOrder
pub mod LineFaults
pub mod LineTurns
pub mod LineAnswers
pub mod DomainLines
pub mod DomainAnswers
pub mod Fronts
pub mod WholeLines
