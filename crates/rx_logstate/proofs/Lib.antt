-- Lemmas on logs that are read up to a step.
pub mod FrontLemmas
pub mod LookLemmas
pub mod StepLemmas
