-- Lemmas on the definitions of specs/.
pub mod BesideLaws
pub mod ClosingLaws
pub mod FreeRules
pub mod OwnLaws
pub mod PassLaws
pub mod PlaceLaws
pub mod SettingLaws
pub mod SimplifyingLaws
pub mod UseLaws
pub mod VariableTests
