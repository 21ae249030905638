-- The code of statements: what is opened and done from a point on, and where it leads.
use Rattle.std.specs.Prelude.{ℕ, ◌+◌, ◌&&◌, List, [], ◌∷◌, Option, Some, None, pos}
use Rattle.rx_plain.specs.Formed.{Formed, pure}
use Rattle.c_ast.specs.declared.integers.Integers.{Integers}
use Rattle.c_ast.specs.declared.expr.Expr.{Expr}
use Rattle.c_ast.specs.declared.expr.Expr.TheVariants.{Lit}
use Rattle.c_ast.specs.declared.stmt.Stmt.{Stmt}
use Rattle.c_ast.specs.declared.stmt.Stmt.TheOpen.{Stmt-F}
use Rattle.c_ast.specs.declared.stmt.Stmt.TheFolds.{fold-Stmt}
use Rattle.rx_code.specs.Codes.{test_or_one}
use Rattle.rx_code.specs.Expressions.{Asked, expr_code}
use Rattle.rx_code.specs.Pieces.{append_code, after, point, a_point, opens, does, marks_head, is_room}
use Rattle.rx_code.specs.declared.action.Action.{Action}
use Rattle.rx_code.specs.declared.action.Action.TheVariants.{Go, Set, Return}
use Rattle.rx_code.specs.declared.code.Code.{Code}
use Rattle.rx_code.specs.declared.point.Point.{Point}
use Rattle.rx_poly.specs.declared.body.Body.{Body}

-- where a statement begins, and where it leads: by its end, by a `break`, and by a `continue`
pub record Places : Type 0 where
  pub at : Point
  pub to : Point
  pub break_to : Point
  pub continue_to : Point

-- a compiled statement: how many slots are in scope after it, given how many are before it, and its
-- code at given places, given the number of the next symbol
pub record Compiled : Type 0 where
  pub slots_after : ℕ → ℕ
  pub code : Places → ℕ → Formed Code

-- ---- parts of statements

-- the value of an expression, and what is done with it
abbrev pub with_value : Asked → (Body → Action) → Point → ℕ → Formed Code
with_value e action a next =
    let v = e.value a next in
    record { form = append_code v.code (does v.at (action v.value)); within = v.within }

-- the slots after a list of statements
abbrev pub slots_after_all : List Compiled → ℕ → ℕ
slots_after_all [] n = n
slots_after_all (t ∷ ts) n = slots_after_all ts (t.slots_after n)

-- a list of statements: before each of the others is compiled, a new point is opened for what
-- follows it
abbrev pub list_code : List Compiled → Places → ℕ → Formed Code
list_code [] at next = pure (does at.at (Go at.to))
list_code (t ∷ []) at next = t.code at next
list_code (t ∷ u ∷ us) at next =
    let n = t.slots_after at.at.width in
    let c = t.code (record at { to = point next n }) (next + 1) in
    let d = list_code (u ∷ us) (record at { at = point next n }) (after (next + 1) c.form) in
    record {
      form = append_code (opens (a_point n ∷ [])) (append_code c.form d.form);
      within = is_room next n && (c.within && d.within);
    }

-- `if` without `else`
abbrev pub if_code : Asked → Compiled → Places → ℕ → Formed Code
if_code e t at next =
    let y = point next at.at.width in
    let c = e.condition at.at y at.to (next + 1) in
    let d = t.code (record at { at = y }) (after (next + 1) c.form) in
    record {
      form = append_code (opens (a_point at.at.width ∷ [])) (append_code c.form d.form);
      within = is_room next at.at.width && (c.within && d.within);
    }

-- `if` with `else`
abbrev pub if_else_code : Asked → Compiled → Compiled → Places → ℕ → Formed Code
if_else_code e t u at next =
    let y = point next at.at.width in
    let w = point (next + 1) at.at.width in
    let c = e.condition at.at y w (next + 2) in
    let d = t.code (record at { at = y }) (after (next + 2) c.form) in
    let f = u.code (record at { at = w }) (after (after (next + 2) c.form) d.form) in
    record {
      form = append_code (opens (a_point at.at.width ∷ a_point at.at.width ∷ []))
          (append_code c.form (append_code d.form f.form));
      within =
          is_room next at.at.width && (is_room (next + 1) at.at.width &&
          (c.within && (d.within && f.within)));
    }

abbrev pub branches_code : Asked → Compiled → Option Compiled → Places → ℕ → Formed Code
branches_code e t None at next = if_code e t at next
branches_code e t (Some u) at next = if_else_code e t u at next

-- `while`: the loop's head is the point at which it begins
abbrev pub while_code : Asked → Compiled → Places → ℕ → Formed Code
while_code e t at next =
    let y = point next at.at.width in
    let c = e.condition at.at y at.to (next + 1) in
    let d = t.code (record { at = y; to = at.at; break_to = at.to; continue_to = at.at })
    (after (next + 1) c.form) in
    record {
      form = append_code (marks_head at.at.symbol)
          (append_code (opens (a_point at.at.width ∷ [])) (append_code c.form d.form));
      within = is_room next at.at.width && (c.within && d.within);
    }

-- `do`: likewise; its test has a point of its own, to which a `continue` leads
abbrev pub do_code : Compiled → Asked → Places → ℕ → Formed Code
do_code t e at next =
    let k = point next at.at.width in
    let c = t.code (record { at = at.at; to = k; break_to = at.to; continue_to = k }) (next + 1) in
    let d = e.condition k at.at at.to (after (next + 1) c.form) in
    record {
      form = append_code (marks_head at.at.symbol)
          (append_code (opens (a_point at.at.width ∷ [])) (append_code c.form d.form));
      within = is_room next at.at.width && (c.within && d.within);
    }

-- a turn of a `for` without a change, from its head on
abbrev pub turn_code : Asked → Compiled → Point → Point → ℕ → Formed Code
turn_code e t h z next =
    let y = point next h.width in
    let c = e.condition h y z (next + 1) in
    let d = t.code (record { at = y; to = h; break_to = z; continue_to = h })
    (after (next + 1) c.form) in
    record {
      form =
          append_code (marks_head h.symbol) (append_code (opens (a_point h.width ∷ []))
          (append_code c.form d.form));
      within = is_room next h.width && (c.within && d.within);
    }

-- with a change, which has a point of its own
abbrev pub change_turn_code : Asked → Compiled → Compiled → Point → Places → ℕ → Formed Code
change_turn_code e u t h at next =
    let y = point next h.width in
    let k = point (next + 1) h.width in
    let c = e.condition h y at.to (next + 2) in
    let d = t.code (record { at = y; to = k; break_to = at.to; continue_to = k })
    (after (next + 2) c.form) in
    let f = u.code (record at { at = k; to = h }) (after (after (next + 2) c.form) d.form) in
    record {
      form = append_code (marks_head h.symbol)
          (append_code (opens (a_point h.width ∷ a_point h.width ∷ []))
          (append_code c.form (append_code d.form f.form)));
      within =
          is_room next h.width && (is_room (next + 1) h.width &&
          (c.within && (d.within && f.within)));
    }

abbrev pub loop_code : Asked → Option Compiled → Compiled → Point → Places → ℕ → Formed Code
loop_code e None t h at next = turn_code e t h at.to next
loop_code e (Some u) t h at next = change_turn_code e u t h at next

-- `for`: without a first part its head is the point at which it begins, otherwise a new point after
-- that part
abbrev pub for_code : List Compiled → Asked → Option Compiled → Compiled → Places → ℕ → Formed Code
for_code [] e change t at next = loop_code e change t at.at at next
for_code (s ∷ ss) e change t at next =
    let n = slots_after_all (s ∷ ss) at.at.width in
    let h = point next n in
    let c = list_code (s ∷ ss) (record at { to = h }) (next + 1) in
    let d = loop_code e change t h at (after (next + 1) c.form) in
    record {
      form = append_code (opens (a_point n ∷ [])) (append_code c.form d.form);
      within = is_room next n && (c.within && d.within);
    }

-- ---- statements, by the kind of integers

-- what is compiled where all slots that are declared in it are out of scope after it
abbrev pub in_scope : (Places → ℕ → Formed Code) → Compiled
in_scope code = record { slots_after = λ n. n; code = code }

module _ (integers : Integers) where
  -- an initial value, which is 0 where it is missing
  abbrev pub value_or_zero : Option Expr → Asked
  value_or_zero None = expr_code integers (Lit (pos 0))
  value_or_zero (Some e) = expr_code integers e

  -- a statement, from the statements in it
  abbrev pub stmt_level : Stmt-F Compiled → Compiled
  stmt_level Stmt-F.Empty = in_scope (λ at next. pure (does at.at (Go at.to)))
  stmt_level (Stmt-F.Declare slot value) = record {
    slots_after = λ n. n + 1;
    code = λ at next. with_value (value_or_zero value) (λ p. Set slot p at.to) at.at next;
  }
  stmt_level (Stmt-F.Assign slot value) =
      in_scope (λ at next. with_value (expr_code integers value) (λ p. Set slot p at.to) at.at next)
  stmt_level (Stmt-F.If test inner other) =
      in_scope (branches_code (expr_code integers test) inner other)
  stmt_level (Stmt-F.While test inner) = in_scope (while_code (expr_code integers test) inner)
  stmt_level (Stmt-F.DoWhile inner test) = in_scope (do_code inner (expr_code integers test))
  stmt_level (Stmt-F.For first test change inner) =
      in_scope (for_code first (expr_code integers (test_or_one test)) change inner)
  stmt_level (Stmt-F.Break token) = in_scope (λ at next. pure (does at.at (Go at.break_to)))
  stmt_level (Stmt-F.Continue token) = in_scope (λ at next. pure (does at.at (Go at.continue_to)))
  stmt_level (Stmt-F.Return value) =
      in_scope (λ at next. with_value (expr_code integers value) Return at.at next)
  stmt_level (Stmt-F.Block inner) = in_scope (list_code inner)

  -- the code of a statement
  abbrev pub stmt_code : Stmt → Compiled
  stmt_code = fold-Stmt Compiled stmt_level
