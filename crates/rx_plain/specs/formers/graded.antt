-- The list that counts first.
pub mod Graded
