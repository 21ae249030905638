-- What the table says of statements, as the code goes along it.
pub mod Statements
