-- What the polynomials of this crate are, what value they have, and what is formed of them.
pub mod Replacements
pub mod Substitution
pub mod Variables
pub mod Terms
pub mod Order
pub mod Value
pub mod Limits
pub mod Normal
pub mod Products
pub mod Reading
pub mod Signs
pub mod Constants
pub mod Digest
pub mod Division
