-- The call that a term ends in, by its form.
-- Naming goes on place by place, it keeps the shapes of both sides, and what its new variables are
-- replaced by is a substitution.
-- Whether a polynomial is a variable without its constant, term by term.
-- Lemmas are lawful steps, and without domains nothing is asked of them alone.
pub mod CallLaws
pub mod Common
pub mod GeneralisingLaws
pub mod GeneralisingOccurrences
pub mod GeneralisingRows
pub mod GeneralisingTerms
pub mod GeneralisingVariables
pub mod InsideLaws
pub mod LemmaLawsNamingLaws
pub mod NamingLaws
pub mod NamingRows
pub mod NamingStanding
pub mod NamingTerms
pub mod NamingValues
pub mod NormalForms
pub mod Polynomials
pub mod RequiredRows
pub mod ShapeLaws
pub mod SubstitutionLaws
pub mod Terms
pub mod ValueLaws
