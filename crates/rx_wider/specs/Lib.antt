-- The wider search: nodes whose goals have tasks, lemmas on tail calls, and choices that keep what
-- two programs have in common.
pub mod Calls
pub mod Menu
pub mod Nodes
pub mod Reached
pub mod Tails
pub mod Wider
