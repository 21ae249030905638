-- Lemmas on the definitions of specs/.
pub mod CoveringLaws
pub mod Equations
pub mod Example
pub mod TreeLaws
