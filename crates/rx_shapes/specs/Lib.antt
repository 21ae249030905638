-- What goals of one shape have in common: places, general sides, rows that may hold at all of them;
-- shapes that are followed with their goals, and what their general equations keep.
pub mod Bounds
pub mod Building
pub mod Candidates
pub mod Following
pub mod General
pub mod Generalising
pub mod GoalBounds
pub mod Goals
pub mod Inside
pub mod Kept
pub mod Numbers
pub mod Options
pub mod Places
pub mod RemainderRows
pub mod Remainders
pub mod Shown
