-- Lemmas on the definitions of specs/.
pub mod Asking
pub mod ColumnLaws
pub mod CommonLaws
pub mod Deciding
pub mod DescendingLaws
pub mod Descent
pub mod EdgeLaws
pub mod InsideLaws
pub mod ListedLaws
pub mod LoopLaws
pub mod Lowered
pub mod PairsLaws
pub mod PartsLaws
pub mod RankLaws
