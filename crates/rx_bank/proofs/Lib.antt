-- Lemmas on the definitions of specs/.
pub mod Growing
pub mod Lasting
pub mod Numbering
