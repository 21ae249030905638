-- What goals, hypotheses and runs of steps mean.
pub mod Example
pub mod Goals
pub mod Runs
