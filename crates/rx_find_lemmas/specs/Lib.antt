-- The lemmas of a goal, and closures that find them.
pub mod AllLemmas
pub mod Finders
pub mod Finding
pub mod Lemmas
pub mod Trials
