-- Lemmas on the definitions of specs/.
pub mod Asked
pub mod LookUps
pub mod Rightness
