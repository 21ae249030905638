-- Runs of rules, where code leads, and the agreement of code and translations with the meaning.
-- From proofs of equations to functions that return alike; and an example that meets the premises.
pub mod Agreement
pub mod Arrivals
pub mod Bounds
pub mod Comparisons
pub mod Example
pub mod Flows
pub mod Functions
pub mod Leads
pub mod LoopCounts
pub mod Loops
pub mod Preconditions
pub mod Programs
pub mod RangeExample
pub mod Ranges
pub mod Runs
pub mod SoundnessExample
pub mod Statements
pub mod Translated
pub mod Values
