pub mod Walking
pub mod PointLists
pub mod Walked
pub mod Comparing
pub mod Differences
pub mod OneComparison
mod Examples
