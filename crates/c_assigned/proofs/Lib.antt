-- Lemmas on the definitions of specs/.
pub mod FlowEquations
pub mod FlowLaws
pub mod Meets
pub mod Reading
