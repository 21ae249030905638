-- The state of a proof at a step of its log.
pub mod AtSteps
pub mod Following
pub mod Fronts
