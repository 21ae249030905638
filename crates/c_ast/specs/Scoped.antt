-- When the slots and the calls of a resolved program are in order: each variable that is read or
-- assigned has a slot in scope, each declaration takes the next slot, which its initial value
-- doesn't read, and each call gives as many arguments as the function at its place has parameters.
use Rattle.std.specs.Prelude.{ℕ, ◌+◌, Bool, true, false, ◌&&◌, nat_eq, nat_lt, if◌then◌else◌, Option, Some, None, List, [], ◌∷◌, length, map, slice_get}
use Rattle.std.specs.List.{list_all}
use Rattle.std.specs.Option.{is_some, option_and_then}
use Rattle.c_ast.specs.declared.expr.Expr.{Expr}
use Rattle.c_ast.specs.declared.expr.Expr.TheOpen.{Expr-F}
use Rattle.c_ast.specs.declared.expr.Expr.TheFolds.{fold-Expr}
use Rattle.c_ast.specs.declared.stmt.Stmt.{Stmt}
use Rattle.c_ast.specs.declared.stmt.Stmt.TheOpen.{Stmt-F}
use Rattle.c_ast.specs.declared.stmt.Stmt.TheFolds.{fold-Stmt}
use Rattle.c_ast.specs.declared.program.Function.{Function}
use Rattle.c_ast.specs.declared.program.Resolved.{Resolved}

-- whether a part that may be left out passes a test, where it is there
abbrev pub passes_if_there : {A : Type 0} → (A → Bool) → Option A → Bool
passes_if_there test None = true
passes_if_there test (Some part) = test part

-- whether there is a function, with as many parameters as there are arguments
abbrev pub takes : Option ℕ → ℕ → Bool
takes None arguments = false
takes (Some parameters) arguments = nat_eq parameters arguments

-- what a statement does to the number of slots in scope: from those before it come those after it,
-- or none where the statement isn't in order
abbrev pub SlotStep : Type 0
SlotStep = ℕ → Option ℕ

-- statements in their order
abbrev pub slots_in_order : List SlotStep → SlotStep
slots_in_order [] n = Some n
slots_in_order (t ∷ ts) n = option_and_then (slots_in_order ts) (t n)

-- whether a part of a statement is in order; what it declares is out of scope after it
abbrev pub is_fine : SlotStep → ℕ → Bool
is_fine t n = is_some (t n)

-- what is in order leaves n slots in scope
abbrev pub only_if : Bool → ℕ → Option ℕ
only_if fine n = if fine then Some n else None

-- `counts` are the numbers of parameters of all functions, by their places
module _ (counts : List ℕ) where
  -- an expression with n slots in scope, from its parts
  abbrev pub is_scoped_level : ℕ → Expr-F Bool → Bool
  is_scoped_level n (Expr-F.Lit k) = true
  is_scoped_level n (Expr-F.Var v) = nat_lt v n
  is_scoped_level n (Expr-F.Unary op a) = a
  is_scoped_level n (Expr-F.Binary op a b) = a && b
  is_scoped_level n (Expr-F.Choose c a b) = c && (a && b)
  is_scoped_level n (Expr-F.Apply f arguments) =
      takes (slice_get counts f) (length arguments) && list_all (λ a. a) arguments

  -- whether an expression is in order with n slots in scope
  abbrev pub is_scoped_expr : ℕ → Expr → Bool
  is_scoped_expr n = fold-Expr Bool (is_scoped_level n)

  -- whether the test, the change and the body of a `for` are in order, after its first part
  abbrev pub is_fine_turn : Option Expr → Option SlotStep → SlotStep → ℕ → Bool
  is_fine_turn test change inner n =
      passes_if_there (is_scoped_expr n) test
      && (passes_if_there (λ t. is_fine t n) change && is_fine inner n)

  -- a statement, from the statements in it
  abbrev pub slots_level : Stmt-F SlotStep → SlotStep
  slots_level Stmt-F.Empty n = Some n
  -- a declaration takes the next slot, and its initial value has only those before it
  slots_level (Stmt-F.Declare slot value) n =
      only_if (nat_eq slot n && passes_if_there (is_scoped_expr n) value) (n + 1)
  slots_level (Stmt-F.Assign slot value) n = only_if (nat_lt slot n && is_scoped_expr n value) n
  slots_level (Stmt-F.If test inner other) n =
      only_if
      (is_scoped_expr n test && (is_fine inner n && passes_if_there (λ t. is_fine t n) other))
      n
  slots_level (Stmt-F.While test inner) n = only_if (is_scoped_expr n test && is_fine inner n) n
  slots_level (Stmt-F.DoWhile inner test) n = only_if (is_fine inner n && is_scoped_expr n test) n
  -- the declarations of a `for` are in scope in its test, its change and its body
  slots_level (Stmt-F.For first test change inner) n =
      option_and_then (λ i. only_if (is_fine_turn test change inner i) n) (slots_in_order first n)
  slots_level (Stmt-F.Break token) n = Some n
  slots_level (Stmt-F.Continue token) n = Some n
  slots_level (Stmt-F.Return value) n = only_if (is_scoped_expr n value) n
  slots_level (Stmt-F.Block inner) n = only_if (is_fine (slots_in_order inner) n) n

  -- the slots in scope after a statement, where n are before it; none where it isn't in order
  abbrev pub slots_after : Stmt → SlotStep
  slots_after = fold-Stmt SlotStep slots_level

  -- whether a function is in order: its parameters have the first slots, and its body the next
  abbrev pub is_scoped_function : Function → Bool
  is_scoped_function f = is_fine (slots_in_order (map slots_after f.body)) (length f.params)

-- the numbers of parameters of all functions, by their places
abbrev pub parameter_counts : List Function → List ℕ
parameter_counts = map (λ (f : Function). length f.params)

-- whether the slots and the calls of a program are in order
abbrev pub is_scoped : Resolved → Bool
is_scoped program =
    list_all (is_scoped_function (parameter_counts program.functions)) program.functions
