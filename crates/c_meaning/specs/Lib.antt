-- What a resolved program means: the outcome of its expressions, statements and calls with a number
-- of rounds, and what a function returns.
-- The counted run of a resolved program.
pub mod Counted
pub mod CountedExpressions
pub mod CountedStatements
pub mod Expressions
pub mod Laws
pub mod Outcomes
pub mod Programs
pub mod Runs
pub mod Statements
