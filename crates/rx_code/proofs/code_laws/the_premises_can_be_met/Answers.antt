use Rattle.c_ast.proofs.ScopedEquations.{scoped_equations}
use Rattle.rx_code.proofs.Translations.{calls_translated, ranged_calls_translated}
use Rattle.rx_code.proofs.code_laws.the_premises_can_be_met.Goals as goal

pub returns-clause-scoped : goal.returns-clause-scoped
returns-clause-scoped c = simp scoped_equations

pub returns-clause-translated : goal.returns-clause-translated
returns-clause-translated c = calls_translated

pub returns-clause-ranged : goal.returns-clause-ranged
returns-clause-ranged c = ranged_calls_translated
