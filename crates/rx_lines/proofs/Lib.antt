-- Lemmas on lines and orders of lines.
pub mod Comparing
pub mod Cuts
pub mod ExampleLaws
pub mod LineEnds
pub mod OneLine
pub mod OneLinePolys
pub mod OrderLaws
