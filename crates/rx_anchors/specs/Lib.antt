-- The symbols of a component and its anchors, polynomials by symbol, and choices of one of several
-- polynomials for each anchor.
pub mod Choices
pub mod Members
pub mod Values
