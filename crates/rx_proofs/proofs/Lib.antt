-- What each kind of step makes of a goal, and what a run of them means.
pub mod Bridge
pub mod Example
pub mod Fitting
pub mod Forward
pub mod InsideDescent
pub mod InsideExample
pub mod InsideTerms
pub mod Lists
pub mod MadeInside
pub mod Making
pub mod Rooted
pub mod RowLaws
pub mod Runs
pub mod StepLaws
