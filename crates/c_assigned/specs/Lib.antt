-- Which variables surely have a value at each place of a function, and the first that is read where
-- it may have none.
pub mod Sets
pub mod Flows
pub mod Faults
