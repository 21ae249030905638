-- The words of the table for statements, at places and after code; rows that are read one after
-- another; what is formed for rules; marks of numbers; numbers of parameters.
pub mod Arity
pub mod Ends
pub mod Marks
pub mod Parts
pub mod Rows
pub mod Rules
