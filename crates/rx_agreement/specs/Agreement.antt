-- What it means that rules and the meaning of C agree, by a kind of integers: on a function, on two
-- of them, and on a precondition; and that arguments are integers of the kind.
use Rattle.std.specs.Prelude.{◌≡◌, ◌≢◌, ◌↔◌, ℕ, true, Some, List, All, length, slice_get, ℤ, pos}
use Rattle.rx_rewriting.specs.Terms as stack
use Rattle.rx_rewriting.specs.Terms.{Ground, IsResult}
use Rattle.rx_rewriting.specs.Steps.{Convertible, Reaches}
use Rattle.rx_term.specs.Meaning.{Instance}
use Rattle.rx_term.specs.declared.rule.Rule.{Rule}
use Rattle.rx_row.specs.Holds.{AllHold}
use Rattle.rx_term.specs.Assigned.{assigned}
use Rattle.rx_code.specs.Preconditions.{pre_rows}
use Rattle.c_ast.specs.declared.expr.Expr.{Expr}
use Rattle.c_ast.specs.Scoped.{parameter_counts}
use Rattle.c_ast.specs.declared.integers.Integers.{Integers}
use Rattle.c_ast.specs.declared.integers.Integers.TheVariants.{Unbounded, Bits32}
use Rattle.c_ast.specs.declared.program.Resolved.{Resolved}
use Rattle.c_meaning.specs.Outcomes.{Failure, Division, Range, Outcome, Value, Error, More, IsAnswer}
use Rattle.c_meaning.specs.Expressions.{is_int}
use Rattle.c_meaning.specs.Programs.{Returns, expr_outcome}

-- the code of an error as a failure: 1 for the division error, 2 for the range error
abbrev pub code_of : Failure → ℕ
code_of Division = 1
code_of Range = 2

-- the result that an outcome is: the returned integer, or the failure of an error. 'More' is no
-- answer; it has no result
abbrev pub result_of : Outcome ℤ → Ground
result_of (Value k) = stack.Return k
result_of (Error e) = stack.Fail (code_of e)
result_of More = stack.Fail 0

module _ (integers : Integers) where
  -- on as many arguments as it has parameters, all integers, the function at the place returns an
  -- outcome exactly where its entry at these arguments reaches it
  abbrev pub AgreeOn : Resolved → List Rule → ℕ → ℕ → Type 0
  AgreeOn program rules f symbol =
      (arguments : List ℤ) → slice_get (parameter_counts program.functions) f ≡
      Some (length arguments)
      → (r : Outcome ℤ) → IsAnswer r
      → Returns integers program f arguments r ↔
      Reaches (Instance rules) (stack.Call symbol arguments)
      (result_of r)

  -- both functions return on the arguments, with one outcome
  pub record ReturnAlike (program : Resolved) (f g : ℕ) (arguments : List ℤ) : Type 0 where
    pub outcome : Outcome ℤ
    pub first : Returns integers program f arguments outcome
    pub second : Returns integers program g arguments outcome

-- both terms reach results by the rules, and these are convertible by the rules
pub record ReachConvertible (rules : List Rule) (s t : Ground) : Type 0 where
  pub left : Ground
  pub right : Ground
  pub left_result : IsResult left
  pub right_result : IsResult right
  pub left_reached : Reaches (Instance rules) s left
  pub right_reached : Reaches (Instance rules) t right
  pub convertible : Convertible (Instance rules) left right

-- the precondition has a value at these integers, whatever the program is, and its rows hold there
-- exactly where that isn't 0
pub record MeansItsRows (program : Resolved) (pre : Expr) (arguments : List ℤ) : Type 0 where
  pub value : ℤ
  pub outcome : (n : ℕ) → expr_outcome Unbounded program n pre arguments ≡ Value value
  pub rows : AllHold (assigned arguments) (pre_rows pre).form ↔ (value ≢ pos 0)

-- the arguments are integers of the kind
abbrev pub AreInts : Integers → List ℤ → Type 0
AreInts Unbounded arguments = Unit {0}
AreInts Bits32 arguments = All (λ x. is_int x ≡ true) arguments
