-- Lemmas on the definitions of specs/.
pub mod ComponentLaws
pub mod Elements
pub mod GraphLaws
pub mod HeightLaws
pub mod LabelLaws
pub mod Marking
pub mod RankLaws
pub mod RowEdges
pub mod RowLaws
