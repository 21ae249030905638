-- Lemmas on the definitions of specs/.
pub mod Applied
pub mod Closing
pub mod ContentLaws
pub mod Dividing
pub mod DivisionLaws
pub mod Eliminating
pub mod GoalLaws
pub mod Multiplying
pub mod Places
pub mod Ranges
pub mod Replacing
pub mod SolvedLaws
pub mod Solving
pub mod ValuesLaws
