-- Lemmas on goals and pairs in words.
pub mod RootLaws
pub mod RowLaws
