-- Lemmas on the definitions of specs/.
pub mod CoverageLaws
pub mod Examples
pub mod Growing
pub mod Opening
pub mod Paired
pub mod TreeLaws
