-- Visits of a tree of nodes, and what the first of them come to.
pub mod Keeping
pub mod Outcomes
pub mod Counters
pub mod Views
pub mod Visits
