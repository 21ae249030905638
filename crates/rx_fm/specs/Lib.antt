-- Elimination of monomials from polynomials that are each to be at least 0, and the multipliers
-- that show a contradiction.
pub mod Content
pub mod Elimination
pub mod Numbers
pub mod Witness
