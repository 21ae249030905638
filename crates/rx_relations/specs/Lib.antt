-- What the polynomials at the places of goals have in common, as polynomials that are 0 at each of
-- these goals.
pub mod Alone
pub mod Applying
pub mod Cancelling
pub mod Common
pub mod Content
pub mod Divisions
pub mod Holding
pub mod Linear
pub mod Products
pub mod Reducing
pub mod Relations
pub mod Values
