-- Lemmas on the definitions of specs/.
pub mod ArgumentLaws
pub mod Bracketed
pub mod EquationLaws
pub mod FrameLaws
pub mod LayerLaws
pub mod TermLaws
pub mod TermWritten
pub mod TreeWords
pub mod TreeWritten
