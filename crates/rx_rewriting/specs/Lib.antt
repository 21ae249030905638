pub mod Terms
pub mod Steps
pub mod Ranks
pub mod Premises
pub mod Example
