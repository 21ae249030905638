-- What the refuter finds of rows, phase by phase, and which answers about that are right.
pub mod Answers
pub mod Attempts
pub mod Bounds
pub mod Disequalities
pub mod Divisions
pub mod Pivots
pub mod Refuter
pub mod Roundings
pub mod Shown
pub mod Sums
