-- How names are spelled, which tokens have one name, and which slot a name denotes.
-- Scopes, and what names stand for: those of an expression, of a precondition, of a function.
pub mod Expressions
pub mod LookupSlots
pub mod Names
pub mod Places
pub mod Preconditions
pub mod Seen
pub mod Slots
pub mod Spellings
pub mod Steps
pub mod Views
