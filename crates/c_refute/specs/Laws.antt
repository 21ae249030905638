-- The words of the laws of the counted run and of comparisons.
use Rattle.std.specs.Prelude.{◌≡◌, ◌≢◌, ⊤, ℕ, Option, None, Some, List, ℤ, pos}
use Rattle.c_ast.specs.declared.expr.Expr.{Expr}
use Rattle.c_ast.specs.declared.integers.Integers.TheVariants.{Unbounded}
use Rattle.c_ast.specs.declared.program.Resolved.{Resolved}
use Rattle.c_meaning.specs.Outcomes as meaning
use Rattle.c_meaning.specs.Programs.{expr_outcome, Returns}
use Rattle.c_meaning.specs.declared.outcomes.Outcome.{Outcome}
use Rattle.c_meaning.specs.declared.outcomes.Outcome.TheVariants.{Value, DivError, More, Over}

-- the outcome in the meaning by the mathematical integers that a decided outcome represents
abbrev pub meant : Outcome → meaning.Outcome ℤ
meant (Value x) = meaning.Value x
meant DivError = meaning.Error meaning.Division
meant More = meaning.More
meant Over = meaning.More

-- the arguments meet the precondition, if there is one: by the meaning with this number of rounds
-- it has a value at them, which isn't 0
abbrev pub Meets : Resolved → ℕ → Option Expr → List ℤ → Type 0
Meets program rounds None arguments = ⊤
Meets program rounds (Some precondition) arguments =
    (value : ℤ) × (expr_outcome Unbounded program rounds precondition arguments ≡
    meaning.Value value) ×
    (value ≢ pos 0)

-- by the meaning the functions at two places return these outcomes, which differ, on the arguments
pub record ReturnDifferent (program : Resolved) (f g : ℕ) (arguments : List ℤ)
    (first second : Outcome) : Type 0 where
  pub first_returns : Returns Unbounded program f arguments (meant first)
  pub second_returns : Returns Unbounded program g arguments (meant second)
  pub different : meant first ≢ meant second
