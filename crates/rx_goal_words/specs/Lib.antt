-- Goals, rules, conditions and pairs in words.
pub mod ConditionTexts
pub mod GoalTexts
pub mod PairTexts
pub mod RuleTexts
