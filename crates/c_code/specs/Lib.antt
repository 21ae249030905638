-- What flat code comes to, and what a run of it keeps.
pub mod Stores
pub mod Flat
pub mod Scopes
