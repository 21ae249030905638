-- Lemmas on the table, for the code that writes it down.
pub mod Conditions
pub mod Following
pub mod Ranged
pub mod Operands
pub mod ArgumentList
pub mod Choices
