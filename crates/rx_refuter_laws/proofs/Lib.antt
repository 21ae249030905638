-- Lemmas on the definitions of specs/.
pub mod Closing
pub mod Contents
pub mod DivisionRows
pub mod Divisors
pub mod Examples
pub mod Findings
pub mod Multipliers
pub mod Opening
pub mod Places
pub mod Polynomials
pub mod Replacement
pub mod Roundable
pub mod Sides
pub mod Substituted
