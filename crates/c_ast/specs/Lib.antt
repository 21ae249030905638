-- What the trees mean: heights, variables and calls, straight functions with the values of their
-- expressions, preconditions, and when the slots and the calls of a resolved program are in order.
pub mod Calls
pub mod Forms
pub mod Height
pub mod RowForms
pub mod Scoped
pub mod ScopedPrograms
pub mod Straight
pub mod Variables
