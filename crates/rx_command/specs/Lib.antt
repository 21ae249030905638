-- The command line: what `clap` knows of it, the numbers in it, and what its words ask for.
pub mod App
pub mod Commands
pub mod Examples
pub mod Numbers
