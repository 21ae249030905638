-- Lemmas on the definitions of specs/.
pub mod GroupLaws
pub mod LawfulLists
pub mod ListLaws
pub mod ServingLaws
pub mod TakenLaws
