-- Lemmas on places.
pub mod FrontLemmas
