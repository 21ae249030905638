-- What is formed within limits, the order of the graded list, and how the containers occur in a
-- type that holds itself.
pub mod Formed
pub mod Graded
pub mod formers
