-- The outcome of each form of tree from those of its parts, one equation for each.
use Rattle.std.proofs.Common.{◌≡◌, ℕ, ℤ, pos, if◌then◌else◌, Option, Some, None, List, [], ◌∷◌, ◌++◌, map, length, take, refl, ap, ◌∙◌}
use Rattle.std.specs.Prelude.{slice_set}
use Rattle.c_ast.specs.declared.expr.UnOp.{UnOp}
use Rattle.c_ast.specs.declared.expr.BinOp.{BinOp}
use Rattle.c_ast.specs.declared.expr.Expr.{Expr}
use Rattle.c_ast.specs.declared.expr.Expr.TheVariants.{Lit, Var, Unary, Binary, Choose, Apply, outs-Lit, outs-Var, outs-Unary, outs-Binary, outs-Choose, outs-Apply}
use Rattle.c_ast.specs.declared.expr.Expr.TheFolds.{fold_out-Expr}
use Rattle.c_ast.specs.declared.integers.Integers.{Integers}
use Rattle.c_ast.specs.declared.stmt.Stmt.{Stmt}
use Rattle.c_ast.specs.declared.stmt.Stmt.TheVariants as Syntax
use Rattle.c_ast.specs.declared.stmt.Stmt.TheFolds.{fold_out-Stmt}
use Rattle.c_meaning.specs.Outcomes.{Outcome, Value, on_value, State, Next, Break, Continue, Return}
use Rattle.c_meaning.specs.Expressions.{Calls, slot, is_zero, unary, binary, values, expr_level, expr}
use Rattle.c_meaning.specs.Statements.{Rounds, calls_with, Execution, optional, on_next, in_order, leave, loop, while_turn, do_turn, stmt_level, stmt}

abbrev Evaluation : Type 0
Evaluation = State → Outcome ℤ

-- what both sides of an equation between evaluations give in one state
in_state : {m n : Evaluation} → m ≡ n → (s : State) → m s ≡ n s
in_state e s = ap (λ (m : Evaluation). m s) e

-- what both sides of an equation between executions give with some rounds from one state
from_state : {m n : Execution} → m ≡ n → (rounds : Rounds) (s : State) → m rounds s ≡ n rounds s
from_state e rounds s = ap (λ (m : Execution). m rounds s) e

module _ (integers : Integers) where
  -- a literal
  pub expr-Lit : (calls : Calls) (k : ℤ) (s : State) → expr integers calls (Lit k) s ≡ Value k
  expr-Lit calls k =
      in_state (fold_out-Expr Evaluation (expr_level integers calls) (Lit k) ∙ rw (outs-Lit k) refl)

  -- a variable
  pub expr-Var : (calls : Calls) (v : ℕ) (s : State) → expr integers calls (Var v) s ≡
      Value (slot s v)
  expr-Var calls v =
      in_state (fold_out-Expr Evaluation (expr_level integers calls) (Var v) ∙ rw (outs-Var v) refl)

  -- an operator before an operand
  pub expr-Unary : (calls : Calls) (op : UnOp) (a : Expr) (s : State)
      → expr integers calls (Unary op a) s ≡ on_value (expr integers calls a s) (unary integers op)
  expr-Unary calls op a =
      in_state (fold_out-Expr Evaluation (expr_level integers calls) (Unary op a) ∙
      rw (outs-Unary op a) refl)

  -- an operator between two operands
  pub expr-Binary : (calls : Calls) (op : BinOp) (a b : Expr) (s : State)
      → expr integers calls (Binary op a b) s ≡
      binary integers op (expr integers calls a s) (expr integers calls b s)
  expr-Binary calls op a b =
      in_state (fold_out-Expr Evaluation (expr_level integers calls) (Binary op a b) ∙
      rw (outs-Binary op a b) refl)

  -- a choice
  pub expr-Choose : (calls : Calls) (c a b : Expr) (s : State)
      → expr integers calls (Choose c a b) s ≡ on_value (expr integers calls c s)
      (λ x. if is_zero x then expr integers calls b s else expr integers calls a s)
  expr-Choose calls c a b =
      in_state (fold_out-Expr Evaluation (expr_level integers calls) (Choose c a b) ∙
      rw (outs-Choose c a b) refl)

  -- a call
  pub expr-Apply : (calls : Calls) (f : ℕ) (arguments : List Expr) (s : State)
      → expr integers calls (Apply f arguments) s ≡
      on_value (values (map (expr integers calls) arguments) s) (calls f)
  expr-Apply calls f arguments =
      in_state (fold_out-Expr Evaluation (expr_level integers calls) (Apply f arguments) ∙
      rw (outs-Apply f arguments) refl)

  -- the null statement
  pub stmt-Empty : (rounds : Rounds) (s : State) → stmt integers Syntax.Empty rounds s ≡
      Value (Next s)
  stmt-Empty =
      from_state (fold_out-Stmt Execution (stmt_level integers) Syntax.Empty ∙
      rw Syntax.outs-Empty refl)

  -- a declaration
  pub stmt-Declare-None : (k : ℕ) (rounds : Rounds) (s : State) →
      stmt integers (Syntax.Declare k None) rounds s ≡ Value (Next (take k s ++ pos 0 ∷ []))
  stmt-Declare-None k =
      from_state (fold_out-Stmt Execution (stmt_level integers) (Syntax.Declare k None) ∙
      rw (Syntax.outs-Declare k None) refl)

  pub stmt-Declare-Some : (k : ℕ) (e : Expr) (rounds : Rounds) (s : State)
      → stmt integers (Syntax.Declare k (Some e)) rounds s ≡
      on_value (expr integers (calls_with rounds) e s) (λ x. Value (Next (take k s ++ x ∷ [])))
  stmt-Declare-Some k e =
      from_state (fold_out-Stmt Execution (stmt_level integers) (Syntax.Declare k (Some e)) ∙
      rw (Syntax.outs-Declare k (Some e)) refl)

  -- an assignment
  pub stmt-Assign : (k : ℕ) (e : Expr) (rounds : Rounds) (s : State)
      → stmt integers (Syntax.Assign k e) rounds s ≡
      on_value (expr integers (calls_with rounds) e s)
      (λ x. Value (Next (slice_set s k x)))
  stmt-Assign k e =
      from_state (fold_out-Stmt Execution (stmt_level integers) (Syntax.Assign k e) ∙
      rw (Syntax.outs-Assign k e) refl)

  -- `if` without and with `else`
  pub stmt-If-None : (e : Expr) (inner : Stmt) (rounds : Rounds) (s : State)
      → stmt integers (Syntax.If e inner None) rounds s ≡
      on_value (expr integers (calls_with rounds) e s)
      (λ x. if is_zero x then Value (Next s) else stmt integers inner rounds s)
  stmt-If-None e inner =
      from_state (fold_out-Stmt Execution (stmt_level integers) (Syntax.If e inner None) ∙
      rw (Syntax.outs-If e inner None) refl)

  pub stmt-If-Some : (e : Expr) (inner other : Stmt) (rounds : Rounds) (s : State)
      → stmt integers (Syntax.If e inner (Some other)) rounds s
      ≡ on_value (expr integers (calls_with rounds) e s)
      (λ x. if is_zero x then stmt integers other rounds s else stmt integers inner rounds s)
  stmt-If-Some e inner other =
      from_state (fold_out-Stmt Execution (stmt_level integers) (Syntax.If e inner (Some other)) ∙
      rw (Syntax.outs-If e inner (Some other)) refl)

  -- `while`
  pub stmt-While : (e : Expr) (body : Stmt) (rounds : Rounds) (s : State)
      → stmt integers (Syntax.While e body) rounds s ≡
      loop (while_turn integers (Some e) (optional None) (stmt integers body))
      rounds s
  stmt-While e body =
      from_state (fold_out-Stmt Execution (stmt_level integers) (Syntax.While e body) ∙
      rw (Syntax.outs-While e body) refl)

  -- `do`
  pub stmt-DoWhile : (body : Stmt) (e : Expr) (rounds : Rounds) (s : State)
      → stmt integers (Syntax.DoWhile body e) rounds s ≡
      loop (do_turn integers e (stmt integers body)) rounds s
  stmt-DoWhile body e =
      from_state (fold_out-Stmt Execution (stmt_level integers) (Syntax.DoWhile body e) ∙
      rw (Syntax.outs-DoWhile body e) refl)

  -- `for`, without and with its last part
  pub stmt-For-None : (first : List Stmt) (test : Option Expr) (body : Stmt) (rounds : Rounds)
      (s : State)
      → stmt integers (Syntax.For first test None body) rounds s
      ≡ on_value (on_value (in_order (map (stmt integers) first) rounds s)
      (on_next (loop (while_turn integers test (optional None) (stmt integers body)) rounds)))
      (leave (length s))
  stmt-For-None first test body =
      from_state (fold_out-Stmt Execution (stmt_level integers) (Syntax.For first test None body) ∙
      rw (Syntax.outs-For first test None body) refl)

  pub stmt-For-Some : (first : List Stmt) (test : Option Expr) (change body : Stmt)
      (rounds : Rounds)
      (s : State)
      → stmt integers (Syntax.For first test (Some change) body) rounds s
      ≡ on_value (on_value (in_order (map (stmt integers) first) rounds s)
      (on_next (loop (while_turn integers test (stmt integers change) (stmt integers body))
      rounds))) (leave (length s))
  stmt-For-Some first test change body =
      from_state (fold_out-Stmt Execution (stmt_level integers)
      (Syntax.For first test (Some change) body) ∙
      rw (Syntax.outs-For first test (Some change) body) refl)

  -- the jumps
  pub stmt-Break : (token : ℕ) (rounds : Rounds) (s : State) →
      stmt integers (Syntax.Break token) rounds s ≡
      Value (Break s)
  stmt-Break token =
      from_state (fold_out-Stmt Execution (stmt_level integers) (Syntax.Break token) ∙
      rw (Syntax.outs-Break token) refl)

  pub stmt-Continue : (token : ℕ) (rounds : Rounds) (s : State) →
      stmt integers (Syntax.Continue token) rounds s ≡ Value (Continue s)
  stmt-Continue token =
      from_state (fold_out-Stmt Execution (stmt_level integers) (Syntax.Continue token) ∙
      rw (Syntax.outs-Continue token) refl)

  pub stmt-Return : (e : Expr) (rounds : Rounds) (s : State)
      → stmt integers (Syntax.Return e) rounds s ≡ on_value (expr integers (calls_with rounds) e s)
      (λ x. Value (Return x))
  stmt-Return e =
      from_state (fold_out-Stmt Execution (stmt_level integers) (Syntax.Return e) ∙
      rw (Syntax.outs-Return e) refl)

  -- a block
  pub stmt-Block : (inner : List Stmt) (rounds : Rounds) (s : State)
      → stmt integers (Syntax.Block inner) rounds s ≡
      on_value (in_order (map (stmt integers) inner) rounds s)
      (leave (length s))
  stmt-Block inner =
      from_state (fold_out-Stmt Execution (stmt_level integers) (Syntax.Block inner) ∙
      rw (Syntax.outs-Block inner) refl)

-- all of these
pub ruleset equations = (
  expr-Lit,
  expr-Var,
  expr-Unary,
  expr-Binary,
  expr-Choose,
  expr-Apply,
  stmt-Empty,
  stmt-Declare-None,
  stmt-Declare-Some,
  stmt-Assign,
  stmt-If-None,
  stmt-If-Some,
  stmt-While,
  stmt-DoWhile,
  stmt-For-None,
  stmt-For-Some,
  stmt-Break,
  stmt-Continue,
  stmt-Return,
  stmt-Block,
)
