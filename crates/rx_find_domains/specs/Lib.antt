-- Domains that are found for a rule set and a goal: groups of symbols, the rows that a domain may
-- have, and those that the rules and the goal keep.
pub mod Candidates
pub mod Finding
pub mod Groups
pub mod Kept
pub mod Parts
