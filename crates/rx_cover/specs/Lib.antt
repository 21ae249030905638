-- Cover trees: what they are found to show, and when lists of them cover a rule set.
pub mod Answers
pub mod Covering
pub mod Depth
pub mod Example
pub mod Redexes
pub mod Trees
