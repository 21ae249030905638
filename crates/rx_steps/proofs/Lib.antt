-- Lemmas on the definitions of specs/.
pub mod GroupLaws
pub mod PostulateLaws
pub mod Reversed
pub mod SettledLaws
