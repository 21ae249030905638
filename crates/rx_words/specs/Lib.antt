-- The texts of certificates, substitutions and rows.
pub mod Certificates
pub mod Heads
pub mod Lists
pub mod Substitutions
pub mod Words
