-- Equations of the table, and what its example says.
-- Laws of the rules of code, of trees in order, and of the table of compiled forms.
pub mod CodeLawsTranslations
pub mod Computing
pub mod Counting
pub mod Instructions
pub mod Elements
pub mod Example
pub mod ExprCodes
pub mod ExprEquations
pub mod Fitting
pub mod Lists
pub mod Made
pub mod Paired
pub mod ProgramCode
pub mod ReadEquations
pub mod Scoped
pub mod Standing
pub mod StmtCodes
pub mod StmtCounting
pub mod StmtEquations
pub mod StmtFitting
pub mod Translations
pub mod Trees
pub mod Whole
