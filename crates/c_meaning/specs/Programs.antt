-- The outcome of the expressions, statements and calls of a resolved program with a number of
-- rounds, and what a function returns, by one kind of integers. Numbers as 6.9.1 are sections of
-- ISO/IEC 9899:1999.
use Rattle.std.specs.Prelude.{◌≡◌, ℕ, zero, suc, Option, None, Some, List, [], ◌∷◌, map, slice_get, ℤ, pos}
use Rattle.c_ast.specs.declared.expr.Expr.{Expr}
use Rattle.c_ast.specs.declared.stmt.Stmt.{Stmt}
use Rattle.c_ast.specs.declared.integers.Integers.{Integers}
use Rattle.c_ast.specs.declared.program.Function.{Function}
use Rattle.c_ast.specs.declared.program.Resolved.{Resolved}
use Rattle.c_meaning.specs.Outcomes.{Outcome, Value, More, on_value, IsAnswer, State, Flow, Next, Break, Continue, Return}
use Rattle.c_meaning.specs.Expressions.{expr}
use Rattle.c_meaning.specs.Statements.{Rounds, calls_with, in_order, stmt}

-- what the end of a body gives its caller: a return its integer (6.5.2.2p5, 6.8.6.4p3), and
-- reaching the body's end 0, where C says nothing (6.9.1p12). In a well-formed program no execution
-- reaches a body's end, and each break and continue is in a loop
abbrev pub returned : Flow → Outcome ℤ
returned (Return k) = Value k
returned (Next s) = Value (pos 0)
returned (Break s) = Value (pos 0)
returned (Continue s) = Value (pos 0)

module _ (integers : Integers) where
  -- a function's body on its parameters, which are the first slots and have the arguments as their
  -- values (6.5.2.2p4, 6.9.1p9, p10, p11). A well-formed program calls only functions that are
  -- there, with as many arguments as parameters
  abbrev pub body_outcome : Option Function → Rounds → List ℤ → Outcome ℤ
  body_outcome None rounds arguments = More
  body_outcome (Some function) rounds arguments =
      on_value (in_order (map (stmt integers) function.body) rounds arguments) returned

  -- `n` rounds of a program: a call that uses a round up runs the body of the called function with
  -- the rounds that are left
  abbrev pub rounds : Resolved → ℕ → Rounds
  rounds program zero = []
  rounds program (suc n) =
      (λ f. body_outcome (slice_get program.functions f) (rounds program n)) ∷ rounds program n

  -- the outcome of an expression in a state with `n` rounds
  abbrev pub expr_outcome : Resolved → ℕ → Expr → State → Outcome ℤ
  expr_outcome program n e s = expr integers (calls_with (rounds program n)) e s

  -- the outcome of a statement from a state with `n` rounds
  abbrev pub stmt_outcome : Resolved → ℕ → Stmt → State → Outcome Flow
  stmt_outcome program n t s = stmt integers t (rounds program n) s

  -- the outcome of a call of the function at place `f`, with `n` rounds: 'more' where there are
  -- none, else its body's with one round less
  abbrev pub call_outcome : Resolved → ℕ → ℕ → List ℤ → Outcome ℤ
  call_outcome program n f arguments = calls_with (rounds program n) f arguments

-- the function at place `f` returns `r`, an integer or an error, on the arguments: some number of
-- rounds is enough, and gives the call this outcome. It is asked of as many arguments as the
-- function has parameters
pub record Returns (integers : Integers) (program : Resolved) (f : ℕ) (arguments : List ℤ)
    (r : Outcome ℤ) : Type 0 where
  pub enough : ℕ
  pub outcome : call_outcome integers program enough f arguments ≡ r
  pub is_answer : IsAnswer r
