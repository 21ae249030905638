-- How a hypothesis is matched with a part of the goal, and when it is used there.
pub mod Arguments
pub mod Beside
pub mod Equations
pub mod Matching
pub mod Settings
pub mod Simplification
pub mod Uses
pub mod Variables
