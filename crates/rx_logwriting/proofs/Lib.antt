-- Lemmas on what is written.
pub mod RangeLaws
pub mod Written
