-- The texts of terms and equations.
-- The texts of cover trees.
pub mod Branches
pub mod Equations
pub mod Layers
pub mod Terms
pub mod Trees
pub mod Written
