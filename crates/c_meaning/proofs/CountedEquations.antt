-- What each form of tree leads to from what its parts lead to, one equation for each.
use Rattle.std.proofs.Common.{◌≡◌, ℕ, ℤ, pos, if◌then◌else◌, Option, Some, None, List, [], ◌∷◌, ◌++◌, map, length, take, refl, ap, ◌∙◌}
use Rattle.std.specs.Prelude.{slice_set}
use Rattle.c_ast.specs.declared.expr.UnOp.{UnOp}
use Rattle.c_ast.specs.declared.expr.BinOp.{BinOp}
use Rattle.c_ast.specs.declared.expr.Expr.{Expr}
use Rattle.c_ast.specs.declared.expr.Expr.TheVariants.{Lit, Var, Unary, Binary, Choose, Apply, outs-Lit, outs-Var, outs-Unary, outs-Binary, outs-Choose, outs-Apply}
use Rattle.c_ast.specs.declared.expr.Expr.TheFolds.{fold_out-Expr}
use Rattle.c_ast.specs.declared.stmt.Stmt.{Stmt}
use Rattle.c_ast.specs.declared.stmt.Stmt.TheVariants as syntax
use Rattle.c_ast.specs.declared.stmt.Stmt.TheFolds.{fold_out-Stmt}
use Rattle.c_meaning.specs.Outcomes.{State, Next, Break, Continue, Return}
use Rattle.c_meaning.specs.Expressions.{slot, is_zero}
use Rattle.c_meaning.specs.Runs.{Value, on_value}
use Rattle.c_meaning.specs.CountedExpressions.{Calls, Evaluation, unary, with_left, values, expr_level, expr}
use Rattle.c_meaning.specs.CountedStatements.{Execution, optional, on_next, in_order, leave, loop, while_turn, do_turn, stmt_level, stmt}

-- what both sides of an equation between evaluations lead to
evaluated : {m n : Evaluation} → m ≡ n → (left : ℕ) (s : State) → m left s ≡ n left s
evaluated e left s = ap (λ (m : Evaluation). m left s) e

-- what both sides of an equation between executions lead to
executed : {m n : Execution} → m ≡ n → (left : ℕ) (s : State) → m left s ≡ n left s
executed e left s = ap (λ (m : Execution). m left s) e

module _ (calls : Calls) where
  -- a literal
  pub expr-Lit : (k : ℤ) (left : ℕ) (s : State) → expr calls (Lit k) left s ≡ Value k left
  expr-Lit k =
      evaluated (fold_out-Expr Evaluation (expr_level calls) (Lit k) ∙ rw (outs-Lit k) refl)

  -- a variable
  pub expr-Var : (v : ℕ) (left : ℕ) (s : State) → expr calls (Var v) left s ≡ Value (slot s v) left
  expr-Var v =
      evaluated (fold_out-Expr Evaluation (expr_level calls) (Var v) ∙ rw (outs-Var v) refl)

  -- an operator before an operand
  pub expr-Unary : (op : UnOp) (a : Expr) (left : ℕ) (s : State) → expr calls (Unary op a) left s ≡
      on_value (expr calls a left s) (unary op)
  expr-Unary op a =
      evaluated (fold_out-Expr Evaluation (expr_level calls) (Unary op a) ∙
      rw (outs-Unary op a) refl)

  -- an operator between two operands
  pub expr-Binary : (op : BinOp) (a b : Expr) (left : ℕ) (s : State)
      → expr calls (Binary op a b) left s ≡ on_value (expr calls a left s)
      (λ x. with_left op x (λ m. expr calls b m s))
  expr-Binary op a b =
      evaluated (fold_out-Expr Evaluation (expr_level calls) (Binary op a b) ∙
      rw (outs-Binary op a b) refl)

  -- a choice
  pub expr-Choose : (c a b : Expr) (left : ℕ) (s : State)
      → expr calls (Choose c a b) left s ≡ on_value (expr calls c left s)
      (λ x m. if is_zero x then expr calls b m s else expr calls a m s)
  expr-Choose c a b =
      evaluated (fold_out-Expr Evaluation (expr_level calls) (Choose c a b) ∙
      rw (outs-Choose c a b) refl)

  -- a call
  pub expr-Apply : (f : ℕ) (arguments : List Expr) (left : ℕ) (s : State)
      → expr calls (Apply f arguments) left s ≡
      on_value (values (map (expr calls) arguments) left s) (λ xs m. calls m f xs)
  expr-Apply f arguments =
      evaluated (fold_out-Expr Evaluation (expr_level calls) (Apply f arguments) ∙
      rw (outs-Apply f arguments) refl)

  -- the null statement
  pub stmt-Empty : (left : ℕ) (s : State) → stmt calls syntax.Empty left s ≡ Value (Next s) left
  stmt-Empty =
      executed (fold_out-Stmt Execution (stmt_level calls) syntax.Empty ∙ rw syntax.outs-Empty refl)

  -- a declaration
  pub stmt-Declare-None : (k : ℕ) (left : ℕ) (s : State) →
      stmt calls (syntax.Declare k None) left s ≡ Value (Next (take k s ++ pos 0 ∷ [])) left
  stmt-Declare-None k =
      executed (fold_out-Stmt Execution (stmt_level calls) (syntax.Declare k None) ∙
      rw (syntax.outs-Declare k None) refl)

  pub stmt-Declare-Some : (k : ℕ) (e : Expr) (left : ℕ) (s : State)
      → stmt calls (syntax.Declare k (Some e)) left s ≡
      on_value (expr calls e left s) (λ x m. Value (Next (take k s ++ x ∷ [])) m)
  stmt-Declare-Some k e =
      executed (fold_out-Stmt Execution (stmt_level calls) (syntax.Declare k (Some e)) ∙
      rw (syntax.outs-Declare k (Some e)) refl)

  -- an assignment
  pub stmt-Assign : (k : ℕ) (e : Expr) (left : ℕ) (s : State)
      → stmt calls (syntax.Assign k e) left s ≡
      on_value (expr calls e left s) (λ x m. Value (Next (slice_set s k x)) m)
  stmt-Assign k e =
      executed (fold_out-Stmt Execution (stmt_level calls) (syntax.Assign k e) ∙
      rw (syntax.outs-Assign k e) refl)

  -- `if` without and with `else`
  pub stmt-If-None : (e : Expr) (inner : Stmt) (left : ℕ) (s : State)
      → stmt calls (syntax.If e inner None) left s
      ≡ on_value (expr calls e left s) (λ x m. if is_zero x then Value (Next s) m else
      stmt calls inner m s)
  stmt-If-None e inner =
      executed (fold_out-Stmt Execution (stmt_level calls) (syntax.If e inner None) ∙
      rw (syntax.outs-If e inner None) refl)

  pub stmt-If-Some : (e : Expr) (inner other : Stmt) (left : ℕ) (s : State)
      → stmt calls (syntax.If e inner (Some other)) left s
      ≡ on_value (expr calls e left s) (λ x m. if is_zero x then stmt calls other m s else
      stmt calls inner m s)
  stmt-If-Some e inner other =
      executed (fold_out-Stmt Execution (stmt_level calls) (syntax.If e inner (Some other)) ∙
      rw (syntax.outs-If e inner (Some other)) refl)

  -- `while`
  pub stmt-While : (e : Expr) (body : Stmt) (left : ℕ) (s : State)
      → stmt calls (syntax.While e body) left s ≡
      loop (while_turn calls (Some e) (optional None) (stmt calls body)) left s
  stmt-While e body =
      executed (fold_out-Stmt Execution (stmt_level calls) (syntax.While e body) ∙
      rw (syntax.outs-While e body) refl)

  -- `do`
  pub stmt-DoWhile : (body : Stmt) (e : Expr) (left : ℕ) (s : State)
      → stmt calls (syntax.DoWhile body e) left s ≡ loop (do_turn calls e (stmt calls body)) left s
  stmt-DoWhile body e =
      executed (fold_out-Stmt Execution (stmt_level calls) (syntax.DoWhile body e) ∙
      rw (syntax.outs-DoWhile body e) refl)

  -- `for`, without and with its last part
  pub stmt-For-None : (first : List Stmt) (test : Option Expr) (body : Stmt) (left : ℕ) (s : State)
      → stmt calls (syntax.For first test None body) left s
      ≡ on_value (on_value (in_order (map (stmt calls) first) left s)
      (on_next (loop (while_turn calls test (optional None) (stmt calls body)))))
      (leave (length s))
  stmt-For-None first test body =
      executed (fold_out-Stmt Execution (stmt_level calls) (syntax.For first test None body) ∙
      rw (syntax.outs-For first test None body) refl)

  pub stmt-For-Some : (first : List Stmt) (test : Option Expr) (change body : Stmt) (left : ℕ)
      (s : State)
      → stmt calls (syntax.For first test (Some change) body) left s
      ≡ on_value (on_value (in_order (map (stmt calls) first) left s)
      (on_next (loop (while_turn calls test (stmt calls change) (stmt calls body)))))
      (leave (length s))
  stmt-For-Some first test change body =
      executed (fold_out-Stmt Execution (stmt_level calls)
      (syntax.For first test (Some change) body) ∙
      rw (syntax.outs-For first test (Some change) body) refl)

  -- the jumps
  pub stmt-Break : (token : ℕ) (left : ℕ) (s : State) → stmt calls (syntax.Break token) left s ≡
      Value (Break s) left
  stmt-Break token =
      executed (fold_out-Stmt Execution (stmt_level calls) (syntax.Break token) ∙
      rw (syntax.outs-Break token) refl)

  pub stmt-Continue : (token : ℕ) (left : ℕ) (s : State) →
      stmt calls (syntax.Continue token) left s ≡ Value (Continue s) left
  stmt-Continue token =
      executed (fold_out-Stmt Execution (stmt_level calls) (syntax.Continue token) ∙
      rw (syntax.outs-Continue token) refl)

  pub stmt-Return : (e : Expr) (left : ℕ) (s : State)
      → stmt calls (syntax.Return e) left s ≡
      on_value (expr calls e left s) (λ x m. Value (Return x) m)
  stmt-Return e =
      executed (fold_out-Stmt Execution (stmt_level calls) (syntax.Return e) ∙
      rw (syntax.outs-Return e) refl)

  -- a block
  pub stmt-Block : (inner : List Stmt) (left : ℕ) (s : State)
      → stmt calls (syntax.Block inner) left s ≡
      on_value (in_order (map (stmt calls) inner) left s) (leave (length s))
  stmt-Block inner =
      executed (fold_out-Stmt Execution (stmt_level calls) (syntax.Block inner) ∙
      rw (syntax.outs-Block inner) refl)

-- all of these
pub ruleset equations = (
  expr-Lit,
  expr-Var,
  expr-Unary,
  expr-Binary,
  expr-Choose,
  expr-Apply,
  stmt-Empty,
  stmt-Declare-None,
  stmt-Declare-Some,
  stmt-Assign,
  stmt-If-None,
  stmt-If-Some,
  stmt-While,
  stmt-DoWhile,
  stmt-For-None,
  stmt-For-Some,
  stmt-Break,
  stmt-Continue,
  stmt-Return,
  stmt-Block,
)
