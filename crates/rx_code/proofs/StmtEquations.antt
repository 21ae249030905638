-- The code of each form of statement, by that of its parts, one equation for each.
use Rattle.std.proofs.Common.{◌≡◌, ◌∙◌, refl, ℕ, ◌+◌, Option, Some, None, List, map, option_map}
use Rattle.rx_plain.specs.Formed.{pure}
use Rattle.c_ast.specs.declared.integers.Integers.{Integers}
use Rattle.c_ast.specs.declared.expr.Expr.{Expr}
use Rattle.c_ast.specs.declared.stmt.Stmt.{Stmt}
use Rattle.c_ast.specs.declared.stmt.Stmt.TheVariants.{Empty, Declare, Assign, If, While, DoWhile, For, Break, Continue, Return, Block, outs-Empty, outs-Declare, outs-Assign, outs-If, outs-While, outs-DoWhile, outs-For, outs-Break, outs-Continue, outs-Return, outs-Block}
use Rattle.c_ast.specs.declared.stmt.Stmt.TheFolds.{fold_out-Stmt}
use Rattle.rx_code.specs.Codes.{test_or_one}
use Rattle.rx_code.specs.Expressions.{expr_code}
use Rattle.rx_code.specs.Pieces.{does}
use Rattle.rx_code.specs.Statements.{Compiled, in_scope, with_value, value_or_zero, branches_code, while_code, do_code, for_code, list_code, stmt_level, stmt_code}
use Rattle.rx_code.specs.declared.action.Action.TheVariants as act

module _ (integers : Integers) where
  pub code-Empty : stmt_code integers Empty ≡ in_scope (λ at next. pure (does at.at (act.Go at.to)))
  code-Empty = fold_out-Stmt Compiled (stmt_level integers) Empty ∙ rw outs-Empty refl

  pub code-Declare : (slot : ℕ) (value : Option Expr) → stmt_code integers (Declare slot value)
      ≡ record {
        slots_after = λ n. n + 1;
        code = λ at next.
            with_value (value_or_zero integers value) (λ p. act.Set slot p at.to) at.at next;
      }
  code-Declare slot value =
      fold_out-Stmt Compiled (stmt_level integers) (Declare slot value) ∙
      rw (outs-Declare slot value) refl

  pub code-Assign : (slot : ℕ) (value : Expr) → stmt_code integers (Assign slot value) ≡
      in_scope (λ at next. with_value (expr_code integers value)
      (λ p. act.Set slot p at.to) at.at next)
  code-Assign slot value =
      fold_out-Stmt Compiled (stmt_level integers) (Assign slot value) ∙
      rw (outs-Assign slot value) refl

  pub code-If : (test : Expr) (inner : Stmt) (other : Option Stmt) →
      stmt_code integers (If test inner other)
      ≡ in_scope (branches_code (expr_code integers test) (stmt_code integers inner)
      (option_map (stmt_code integers) other))
  code-If test inner None =
      fold_out-Stmt Compiled (stmt_level integers) (If test inner None) ∙
      rw (outs-If test inner None) refl
  code-If test inner (Some other) =
      fold_out-Stmt Compiled (stmt_level integers) (If test inner (Some other)) ∙
      rw (outs-If test inner (Some other)) refl

  pub code-While : (test : Expr) (inner : Stmt) → stmt_code integers (While test inner) ≡
      in_scope (while_code (expr_code integers test) (stmt_code integers inner))
  code-While test inner =
      fold_out-Stmt Compiled (stmt_level integers) (While test inner) ∙
      rw (outs-While test inner) refl

  pub code-DoWhile : (inner : Stmt) (test : Expr) → stmt_code integers (DoWhile inner test) ≡
      in_scope (do_code (stmt_code integers inner) (expr_code integers test))
  code-DoWhile inner test =
      fold_out-Stmt Compiled (stmt_level integers) (DoWhile inner test) ∙
      rw (outs-DoWhile inner test) refl

  pub code-For : (first : List Stmt) (test : Option Expr) (change : Option Stmt) (inner : Stmt) →
      stmt_code integers (For first test change inner)
      ≡ in_scope (for_code (map (stmt_code integers) first) (expr_code integers (test_or_one test))
      (option_map (stmt_code integers) change) (stmt_code integers inner))
  code-For first test None inner =
      fold_out-Stmt Compiled (stmt_level integers) (For first test None inner) ∙
      rw (outs-For first test None inner) refl
  code-For first test (Some change) inner =
      fold_out-Stmt Compiled (stmt_level integers) (For first test (Some change) inner) ∙
      rw (outs-For first test (Some change) inner) refl

  pub code-Break : (token : ℕ) → stmt_code integers (Break token) ≡
      in_scope (λ at next. pure (does at.at (act.Go at.break_to)))
  code-Break token = fold_out-Stmt Compiled (stmt_level integers) (Break token) ∙
      rw (outs-Break token) refl

  pub code-Continue : (token : ℕ) → stmt_code integers (Continue token) ≡
      in_scope (λ at next. pure (does at.at (act.Go at.continue_to)))
  code-Continue token =
      fold_out-Stmt Compiled (stmt_level integers) (Continue token) ∙ rw (outs-Continue token) refl

  pub code-Return : (value : Expr) → stmt_code integers (Return value) ≡
      in_scope (λ at next. with_value (expr_code integers value) act.Return at.at next)
  code-Return value = fold_out-Stmt Compiled (stmt_level integers) (Return value) ∙
      rw (outs-Return value) refl

  pub code-Block : (inner : List Stmt) → stmt_code integers (Block inner) ≡
      in_scope (list_code (map (stmt_code integers) inner))
  code-Block inner = fold_out-Stmt Compiled (stmt_level integers) (Block inner) ∙
      rw (outs-Block inner) refl

-- all of these
pub ruleset stmt_equations = (
  code-Empty,
  code-Declare,
  code-Assign,
  code-If,
  code-While,
  code-DoWhile,
  code-For,
  code-Break,
  code-Continue,
  code-Return,
  code-Block,
)
