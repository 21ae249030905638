-- Lemmas on the definitions of specs/.
pub mod CandidateLaws
pub mod DroppingLaws
pub mod GroupLaws
pub mod KeepLaws
pub mod LawfulLaws
pub mod PassLaws
pub mod Settling
pub mod ShownLaws
pub mod StayingLaws
pub mod VisitingLaws
