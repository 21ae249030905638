-- Lemmas on messages.
pub mod ExplainLemmas
pub mod FactLemmas
pub mod MessageLemmas
