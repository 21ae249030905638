-- When a certificate refutes rows, when rows show a row, and when a list of conditions is shown.
pub mod Conditions
pub mod Depth
pub mod Differences
pub mod DivisionFacts
pub mod Elimination
pub mod Examination
pub mod Findings
pub mod Rounding
pub mod Showing
pub mod Sums
pub mod Variables
