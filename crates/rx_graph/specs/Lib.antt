-- Finite graphs over the numbers below another: paths, components, heights.
pub mod Components
pub mod Graph
pub mod Heights
pub mod Marks
pub mod Ranked
pub mod Rows
