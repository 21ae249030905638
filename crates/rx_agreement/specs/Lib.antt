-- What it means that rules and the meaning of C agree, and an example.
-- A program of two functions, its rule set and a rank table.
pub mod Agreement
pub mod Example
pub mod RangeExample
pub mod SoundnessExample
