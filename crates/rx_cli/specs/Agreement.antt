-- What it means that two functions of a text agree, by a kind of integers: on all integers of the
-- kind that meet the precondition they return alike, by the meaning of C: the same integer, or both
-- the division error, or both the range error, which over the mathematical integers, where nothing
-- overflows, no function has.
use Rattle.std.specs.Prelude.{◌≡◌, ◌≢◌, ⊤, ℕ, ℤ, pos, List, Option, Some, None, length}
use Rattle.c_ast.specs.declared.expr.Expr.{Expr}
use Rattle.c_ast.specs.declared.integers.Integers.{Integers}
use Rattle.c_ast.specs.declared.integers.Integers.TheVariants.{Unbounded}
use Rattle.c_ast.specs.declared.program.Resolved.{Resolved}
use Rattle.c_meaning.specs.Outcomes.{Value}
use Rattle.c_meaning.specs.Programs.{expr_outcome}
use Rattle.c_front.specs.declared.pairs.Compared.{Compared}
use Rattle.c_front.specs.declared.stages.Next.TheVariants.{Goes}
use Rattle.c_front.specs.Conditions.{whole_front}
use Rattle.c_front.specs.Front.{count_in}
use Rattle.rx_agreement.specs.Agreement.{AreInts, ReturnAlike}
use Rattle.rx_command.specs.Commands.{Functions}

-- the arguments meet the precondition, if there is one: it has a value at them, which isn't 0. It
-- is read over the mathematical integers, whatever the functions are read over
abbrev pub Meets : Resolved → Option Expr → List ℤ → Type 0
Meets program None arguments = ⊤
Meets program (Some pre) arguments =
    (value : ℤ) × ((rounds : ℕ) → expr_outcome Unbounded program rounds pre arguments ≡ Value value)
    × (value ≢ pos 0)

-- both functions return alike on all integers of the kind, as many as they have parameters, that
-- meet the precondition
abbrev pub AreAlike : Integers → Compared → Type 0
AreAlike integers compared =
    (arguments : List ℤ)
    → length arguments ≡ count_in compared.two.program compared.two.first
    → AreInts integers arguments
    → Meets compared.two.program compared.precondition arguments
    → ReturnAlike integers compared.two.program compared.two.first compared.two.second arguments

-- the text spells a well-formed program whose numbers are integers of the kind, the names are those
-- of two of its functions, of equally many parameters, the precondition is one on these, and both
-- functions return alike where it is met
pub record Agrees (source : List ℕ) (f : Functions) : Type 0 where
  pub compared : Compared
  pub front : whole_front f.integers source f.first f.second f.precondition (Goes compared)
  pub alike : AreAlike f.integers compared
