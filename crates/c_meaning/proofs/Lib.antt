pub mod Bounds
pub mod CountedEquations
pub mod Division
pub mod Equations
pub mod Examples
mod ExpressionExamples
pub mod Meaning
mod Narrowing
mod RangeExamples
pub mod Rounds
pub mod Runs
mod StatementExamples
pub mod StraightValues
