-- The grammar of expressions, how deep brackets are open, and what the readers of expressions
-- answer.
-- The grammar of statements, functions and prototypes, and what the readers of statements answer.
pub mod Depth
pub mod Grammar
pub mod Heights
pub mod Names
pub mod Programs
pub mod Readers
pub mod Statements
pub mod StmtReaders
