-- What the parser answers: the program or the precondition that is spelled, or the first refusal
-- that has its cause.
-- The first place at which a list of tokens is lost, and the tables of the recogniser that finds
-- it.
pub mod Actions
pub mod Answers
pub mod HighStatements
pub mod Names
pub mod Places
pub mod Preconditions
pub mod Programs
pub mod Readers
pub mod Recogniser
