-- Lemmas on the definitions of specs/.
pub mod Lawful
pub mod Membership
pub mod PartLaws
pub mod RowLaws
pub mod Same
pub mod Substituting
pub mod SubstitutionLaws
pub mod Summing
pub mod TurnedTerms
