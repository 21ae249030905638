-- The pairs of rules, the ranks of symbols, and when a pair is lower by a column of its table.
pub mod Columns
pub mod Common
pub mod Descents
pub mod Graph
pub mod Inside
pub mod Lent
pub mod Listed
pub mod Loops
pub mod Lowering
pub mod Pairs
pub mod Ranks
