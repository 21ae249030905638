-- Texts of lines, and orders of lines: which texts are read by one, and the first bad line of those
-- that aren't.
pub mod Example
pub mod Orders
pub mod Texts
