-- Lemmas on the definitions of specs/.
pub mod Equations
pub mod Lists
pub mod NameLaws
pub mod Places
pub mod SeenLemmas
