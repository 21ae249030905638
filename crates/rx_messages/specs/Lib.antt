-- What a run says on standard error, beside its report.
pub mod Asked
pub mod Explaining
pub mod Faults
pub mod Logs
pub mod Messages
pub mod Remarks
pub mod RuleTexts
pub mod Steps
