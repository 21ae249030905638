-- How runs of flat code end, and the outcome of an expression that may be left out.
pub mod Ends
pub mod Machines
pub mod Preconditions
