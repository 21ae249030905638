-- Lemmas on the definitions of specs/: the equations of each form of tree, by topic, and what holds
-- of programs whose slots and calls are in order.
pub mod CallEquations
pub mod Copied
pub mod Equations
pub mod FormEquations
pub mod Returned
pub mod ScopedEquations
pub mod ScopedLaws
pub mod StmtEquations
pub mod StraightForms
