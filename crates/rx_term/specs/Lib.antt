-- Terms as stacks, what they mean as ground terms, and rule sets.
pub mod Assigned
pub mod Bounds
pub mod Covered
pub mod Differences
pub mod Domains
pub mod Example
pub mod Fitting
pub mod MadeTest
pub mod Meaning
pub mod Paired
pub mod Replacements
pub mod Shapes
pub mod Stacks
pub mod Substitution
pub mod Variables
pub mod WellMade
