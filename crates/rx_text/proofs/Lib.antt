-- Lemmas on the definitions of specs/.
pub mod Decimals
pub mod Readers
pub mod Integers
pub mod Lists
pub mod PolyTexts
pub mod Atoms
pub mod Sums
pub mod Nesting
pub mod Readable
pub mod RowTexts
