-- The outcome of an expression that may be left out.
use Rattle.std.specs.Prelude.{ℕ, Option, None, Some, List, ℤ, pos}
use Rattle.c_ast.specs.declared.expr.Expr.{Expr}
use Rattle.c_ast.specs.declared.program.Resolved.{Resolved}
use Rattle.c_meaning.specs.Counted.{counted_expr, outcome_of}
use Rattle.c_meaning.specs.declared.outcomes.Outcome.{Outcome}
use Rattle.c_meaning.specs.declared.outcomes.Outcome.TheVariants.{Value}

-- the outcome of the precondition at a point; a missing one is a constant other than 0
abbrev pub precondition_at : Resolved → Option Expr → ℕ → List ℤ → Outcome
precondition_at program None rounds point = Value (pos 1)
precondition_at program (Some e) rounds point = outcome_of (counted_expr program e rounds point)
