-- Lemmas on the definitions of specs/.
pub mod AskingNothing
pub mod ExpandLaws
pub mod FoundLaws
pub mod MoveForms
pub mod OutcomeLaws
pub mod PointLaws
pub mod RedexLaws
pub mod RuleStepLaws
pub mod RuleWalk
pub mod SuffixLaws
pub mod TriedLaws
