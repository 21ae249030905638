-- Definitions that contracts cite.
-- The columns of a table as they are found, the pairs that a column closes, and the open pairs by
-- component.
pub mod Between
pub mod Closing
pub mod Columns
pub mod Fits
pub mod Found
pub mod Groups
pub mod Joined
pub mod Rounds
pub mod Tables
