-- Lemmas on digits, on what `clap` found, and on the command line as `clap` takes it.
pub mod Digits
pub mod Modes
pub mod Rows
pub mod Taken
