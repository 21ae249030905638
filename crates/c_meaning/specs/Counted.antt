-- The counted run of a resolved program: as its meaning, but the rounds are handed through. Each
-- call and each turn of a loop takes one off what is left, none left gives 'more', and what is left
-- after a part goes on to the next. Numbers as 6.9.1 are sections of ISO/IEC 9899:1999.
use Rattle.std.specs.Prelude.{ℕ, zero, suc, Option, None, Some, List, map, slice_get, ℤ, pos}
use Rattle.c_ast.specs.declared.expr.Expr.{Expr}
use Rattle.c_ast.specs.declared.program.Function.{Function}
use Rattle.c_ast.specs.declared.program.Resolved.{Resolved}
use Rattle.c_meaning.specs.Outcomes.{State, Flow, Next, Break, Continue, Return}
use Rattle.c_meaning.specs.declared.outcomes.Outcome.{Outcome}
use Rattle.c_meaning.specs.declared.outcomes.Outcome.TheVariants as outcome
use Rattle.c_meaning.specs.Runs.{Run, Value, DivisionError, More, Over, on_value}
use Rattle.c_meaning.specs.CountedExpressions.{Calls, expr}
use Rattle.c_meaning.specs.CountedStatements.{in_order, stmt}

-- what the end of a body gives its caller (6.5.2.2p5, 6.8.6.4p3, 6.9.1p12): a return its integer,
-- and reaching the body's end 0
abbrev pub returned : Flow → ℕ → Run ℤ
returned (Return k) left = Value k left
returned (Next s) left = Value (pos 0) left
returned (Break s) left = Value (pos 0) left
returned (Continue s) left = Value (pos 0) left

-- a function's body on its parameters, which are the first slots and have the arguments as their
-- values (6.5.2.2p4, 6.9.1p9, p10, p11)
abbrev pub body_run : Option Function → Calls → ℕ → List ℤ → Run ℤ
body_run None calls left arguments = More
body_run (Some function) calls left arguments =
    on_value (in_order (map (stmt calls) function.body) left arguments) returned

-- calls of a program, nested at most `most` deep, each of which takes a round: with none left
-- 'more', otherwise the called function's body with what is left
abbrev pub nested_calls : Resolved → ℕ → Calls
nested_calls program zero left f arguments = More
nested_calls program (suc most) zero f arguments = More
nested_calls program (suc most) (suc left) f arguments =
    body_run (slice_get program.functions f) (nested_calls program most) left arguments

-- what a call of the function at place `f` leads to, with this number of rounds left before it:
-- calls are nested no deeper than that
abbrev pub counted : Resolved → Calls
counted program left f arguments = nested_calls program left left f arguments

-- what an expression leads to, with this number of rounds left before it, in a state
abbrev pub counted_expr : Resolved → Expr → ℕ → State → Run ℤ
counted_expr program = expr (counted program)

-- the outcome of a whole run, in which it no longer matters what is left
abbrev pub outcome_of : Run ℤ → Outcome
outcome_of (Value x left) = outcome.Value x
outcome_of DivisionError = outcome.DivError
outcome_of More = outcome.More
outcome_of Over = outcome.Over
