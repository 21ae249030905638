-- Lemmas on the definitions of specs/.
-- Lemmas on resolved programs, by topic.
pub mod Expressions
pub mod Places
pub mod Preconditions
pub mod Programs
mod ResolvedExamples
pub mod ResolvedPrograms
pub mod ScopedStatements
pub mod Sequences
pub mod Steps
