-- One file for each container that a type may hold itself through.
pub mod boxed
pub mod graded
pub mod items
