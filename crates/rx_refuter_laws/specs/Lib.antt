-- The leaves of the refuter's case splits, and which of them are open.
pub mod Leaves
