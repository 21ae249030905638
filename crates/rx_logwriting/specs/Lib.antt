-- The parts of a log of which each has a text, and lines that have the same text in each version.
pub mod Frames
pub mod Ranges
