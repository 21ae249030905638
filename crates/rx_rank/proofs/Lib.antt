-- Lemmas on the definitions of specs/.
pub mod AllMade
pub mod Certified
pub mod Choosing
pub mod ComponentLaws
pub mod Exchanging
pub mod Gathering
pub mod LentPairs
pub mod MemoLaws
pub mod NameLaws
pub mod NumberLaws
pub mod OwnCandidates
pub mod OwnRows
pub mod OwnValues
pub mod PairLaws
pub mod TryLaws
pub mod Walks
