-- The lines of a rule text, their order, a rule set with an equation as text, and what a reader of
-- such texts answers.
pub mod Gathering
pub mod Places
pub mod Reading
pub mod RuleLines
pub mod RuleTexts
pub mod SymbolParts
