-- The polynomials that are inside one.
-- Integer terms: what value they have, what is formed of them, and their variables.
pub mod Inner
pub mod Norm
pub mod Operations
pub mod Tests
pub mod Variables
