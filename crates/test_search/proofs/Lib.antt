-- What is known of hypotheses that fit, of the small program, and of the functions that a line names.
pub mod FittingLaws
pub mod Samples
pub mod Scoped
