-- What it means that rows hold, what the negation of one is, which of their multiples may be
-- summed, and what lists of them are.
pub mod Digest
pub mod Holds
pub mod Membership
pub mod Naming
pub mod Opposites
pub mod Negation
pub mod Parts
pub mod Substitution
pub mod Variables
