-- Wider domains: a longer list of rows that a domain may have, of which those are left out without
-- which there are a cover and ranks, by the wider ranking, inside the domains that are found.
pub mod Finding
pub mod Found
pub mod Groups
pub mod Lists
pub mod Offers
pub mod Places
pub mod Signs
pub mod Walks
