-- Lemmas on the definitions of specs/.
pub mod ConditionLaws
pub mod DifferenceLaws
pub mod DivisionLaws
pub mod EliminationLaws
pub mod Equations
pub mod FindingLaws
pub mod Law
pub mod Rounded
pub mod RoundingLaws
pub mod ShowingLaws
pub mod SumLaws
