-- The variables of expressions and statements, whatever they mean.
use Rattle.std.specs.Prelude.{ℕ, Option, Some, None, List, [], ◌∷◌, ◌++◌}
use Rattle.std.specs.List.{concat}
use Rattle.c_ast.specs.declared.expr.Expr.{Expr}
use Rattle.c_ast.specs.declared.expr.Expr.TheOpen.{Expr-F}
use Rattle.c_ast.specs.declared.expr.Expr.TheFolds.{fold-Expr}
use Rattle.c_ast.specs.declared.stmt.Stmt.{Stmt}
use Rattle.c_ast.specs.declared.stmt.Stmt.TheOpen.{Stmt-F}
use Rattle.c_ast.specs.declared.stmt.Stmt.TheFolds.{fold-Stmt}

-- the variables of an expression, from those of its parts
abbrev pub variables_level : Expr-F (List ℕ) → List ℕ
variables_level (Expr-F.Lit n) = []
variables_level (Expr-F.Var v) = v ∷ []
variables_level (Expr-F.Unary op a) = a
variables_level (Expr-F.Binary op a b) = a ++ b
variables_level (Expr-F.Choose c a b) = c ++ a ++ b
variables_level (Expr-F.Apply name arguments) = concat arguments

-- the variables of an expression from left to right, each as often as it occurs there; the name of
-- a called function is none
abbrev pub variables : Expr → List ℕ
variables = fold-Expr (List ℕ) variables_level

-- the list of a part that may be left out, empty where it is
abbrev pub list_of_option : {A : Type 0} → (A → List ℕ) → Option A → List ℕ
list_of_option list None = []
list_of_option list (Some part) = list part

-- the variables of a statement, from those of the statements in it
abbrev pub stmt_variables_level : Stmt-F (List ℕ) → List ℕ
stmt_variables_level Stmt-F.Empty = []
stmt_variables_level (Stmt-F.Declare name value) = name ∷ list_of_option variables value
stmt_variables_level (Stmt-F.Assign name value) = name ∷ variables value
stmt_variables_level (Stmt-F.If test then other) =
    variables test ++ then ++ list_of_option (λ vs. vs) other
stmt_variables_level (Stmt-F.While test body) = variables test ++ body
stmt_variables_level (Stmt-F.DoWhile body test) = body ++ variables test
stmt_variables_level (Stmt-F.For first test change body) =
    concat first ++ list_of_option variables test ++ list_of_option (λ vs. vs) change ++ body
stmt_variables_level (Stmt-F.Break token) = []
stmt_variables_level (Stmt-F.Continue token) = []
stmt_variables_level (Stmt-F.Return value) = variables value
stmt_variables_level (Stmt-F.Block inner) = concat inner

-- the variables that a statement declares, assigns or reads, in the order of its parts, each as
-- often as it occurs there
abbrev pub stmt_variables : Stmt → List ℕ
stmt_variables = fold-Stmt (List ℕ) stmt_variables_level
