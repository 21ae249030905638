-- Lemmas on the lines of rule texts, on what is gathered from them, and on what is written.
pub mod GatheringLaws
pub mod KindWords
pub mod LineKinds
pub mod MadeRules
pub mod OneLineRules
pub mod OneReading
pub mod RuleOrder
pub mod TextReading
pub mod Written
