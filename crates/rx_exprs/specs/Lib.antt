-- What it means that a call compiles an expression as the table says.
pub mod Compiles
