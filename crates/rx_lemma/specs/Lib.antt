-- The lemmas that a search tries at a goal.
-- Naming of constants.
-- Two generalisations of a goal.
-- Lemmas as lawful steps.
pub mod Answers
pub mod Calls
pub mod GeneraliseAnswers
pub mod Generalising
pub mod InsideRows
pub mod Lawful
pub mod LawfulGeneralisations
pub mod LawfulNaming
pub mod Lemmas
pub mod Naming
pub mod NamingCalls
pub mod Parts
pub mod Repeated
pub mod RuleRows
pub mod Shapes
pub mod Values
