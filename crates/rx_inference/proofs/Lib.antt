-- Lemmas on the definitions of specs/.
pub mod Filtering
pub mod FormingLaws
pub mod InsideLaws
pub mod JudgingLaws
pub mod PieceLaws
