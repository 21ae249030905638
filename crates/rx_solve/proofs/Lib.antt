-- Lemmas on the definitions of specs/.
mod Alone
pub mod Calls
pub mod Certificates
mod Examples
pub mod Found
pub mod OwnVariables
pub mod Phases
pub mod Proving
pub mod RatioLaws
pub mod RoundingWalk
pub mod Walks
