-- Buckets that grow.
pub mod Buckets
