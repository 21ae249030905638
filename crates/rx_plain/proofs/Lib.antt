-- General laws: tests, lists, numbers; and of what is formed within limits.
pub mod Booleans
pub mod FoldedInOrder
pub mod Forming
pub mod Integers
pub mod Kept
pub mod Lists
pub mod MappedInOrder
pub mod Naturals
