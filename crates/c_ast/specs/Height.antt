-- The height of an expression and of a statement: 1, and 1 more for each level of parts. A list
-- adds no height of its own.
use Rattle.std.specs.Prelude.{ℕ, ◌+◌, max, Option, Some, None, List, [], ◌∷◌}
use Rattle.c_ast.specs.declared.expr.Expr.{Expr}
use Rattle.c_ast.specs.declared.expr.Expr.TheOpen.{Expr-F}
use Rattle.c_ast.specs.declared.expr.Expr.TheFolds.{fold-Expr}
use Rattle.c_ast.specs.declared.stmt.Stmt.{Stmt}
use Rattle.c_ast.specs.declared.stmt.Stmt.TheOpen.{Stmt-F}
use Rattle.c_ast.specs.declared.stmt.Stmt.TheFolds.{fold-Stmt}

-- the greatest of a list of heights, 0 where there is none
abbrev pub greatest : List ℕ → ℕ
greatest [] = 0
greatest (h ∷ hs) = max h (greatest hs)

-- the height of a part that may be left out, 0 where it is
abbrev pub of_option : {A : Type 0} → (A → ℕ) → Option A → ℕ
of_option height None = 0
of_option height (Some part) = height part

-- the height of an expression, from the heights of its parts
abbrev pub expr_height_level : Expr-F ℕ → ℕ
expr_height_level (Expr-F.Lit n) = 1
expr_height_level (Expr-F.Var v) = 1
expr_height_level (Expr-F.Unary op a) = 1 + a
expr_height_level (Expr-F.Binary op a b) = 1 + max a b
expr_height_level (Expr-F.Choose c a b) = 1 + max (max c a) b
expr_height_level (Expr-F.Apply name arguments) = 1 + greatest arguments

-- the height of an expression
abbrev pub expr_height : Expr → ℕ
expr_height = fold-Expr ℕ expr_height_level

-- the height of a statement, from the heights of the statements in it
abbrev pub stmt_height_level : Stmt-F ℕ → ℕ
stmt_height_level Stmt-F.Empty = 1
stmt_height_level (Stmt-F.Declare name value) = 1 + of_option expr_height value
stmt_height_level (Stmt-F.Assign name value) = 1 + expr_height value
stmt_height_level (Stmt-F.If test then other) =
    1 + max (max (expr_height test) then) (of_option (λ h. h) other)
stmt_height_level (Stmt-F.While test body) = 1 + max (expr_height test) body
stmt_height_level (Stmt-F.DoWhile body test) = 1 + max body (expr_height test)
stmt_height_level (Stmt-F.For first test change body) =
    1 + max (max (max (greatest first) (of_option expr_height test)) body)
    (of_option (λ h. h) change)
stmt_height_level (Stmt-F.Break token) = 1
stmt_height_level (Stmt-F.Continue token) = 1
stmt_height_level (Stmt-F.Return value) = 1 + expr_height value
stmt_height_level (Stmt-F.Block inner) = 1 + greatest inner

-- the height of a statement
abbrev pub stmt_height : Stmt → ℕ
stmt_height = fold-Stmt ℕ stmt_height_level
