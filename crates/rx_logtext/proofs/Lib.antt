-- Lemmas on lines, places and logs.
pub mod Cuts
pub mod Each
pub mod Gathered
pub mod LineKinds
pub mod OneLine
pub mod OneLineLines
pub mod OneLinePolys
pub mod OneLineTrees
pub mod OneReading
pub mod Places
pub mod Readers
pub mod StepKinds
pub mod Taking
pub mod Texts
pub mod Unique
