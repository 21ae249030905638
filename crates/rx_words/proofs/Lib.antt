-- Lemmas on the definitions of specs/.
pub mod CertLaws
pub mod HeadLaws
pub mod Joined
pub mod Once
pub mod Spaced
pub mod Written
