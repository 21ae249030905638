-- Calls of closures; steps to lemmas, and the law of lemmas.
pub mod AllLawful
pub mod Calls
pub mod Steps
pub mod Trying
