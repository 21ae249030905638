-- Lemmas on the table, the rule set and the goal, for the code that writes them down.
pub mod BoundLemmas
pub mod Elements
pub mod Entries
pub mod Infos
pub mod MarkLemmas
pub mod Sorted
pub mod Translated
pub mod Variables
pub mod Walks
