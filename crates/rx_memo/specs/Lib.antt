-- What a memo has of goals.
pub mod Buckets
pub mod Kept
