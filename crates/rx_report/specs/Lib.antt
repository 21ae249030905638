-- What a run may answer, how it ends then, and what it writes.
pub mod Ends
pub mod Reports
pub mod Texts
pub mod Verdicts
