-- Domains given to a rule set, and when its rules keep them.
pub mod Answers
pub mod Keeping
pub mod Setting
