-- Lemmas on the definitions of specs/.
pub mod ClosedLaws
pub mod CountLaws
pub mod KeepingLaws
pub mod ListLaws
pub mod NewLaws
pub mod OutcomeLaws
pub mod ResumeLaws
pub mod SeenLaws
pub mod StepLaws
pub mod StopLaws
pub mod VisitedLaws
pub mod WalkLaws
