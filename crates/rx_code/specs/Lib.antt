-- What C programs are compiled to, as a table: pieces of code, expressions, statements, functions
-- and programs, the rules of code, the rule set of two functions; and what it guarantees of points,
-- as a relation without numbers.
-- What rules do at points, and code that carries a program.
pub mod Bounds
pub mod Carried
pub mod Codes
pub mod Doing
pub mod Example
pub mod Expressions
pub mod Pieces
pub mod Points
pub mod Preconditions
pub mod Programs
pub mod Reached
pub mod Rules
pub mod Statements
pub mod Translation
