-- The calls in expressions and statements, by what names the called function.
use Rattle.std.specs.Prelude.{ℕ, List, [], ◌∷◌, ◌++◌}
use Rattle.std.specs.List.{concat}
use Rattle.c_ast.specs.Variables.{list_of_option}
use Rattle.c_ast.specs.declared.expr.Expr.{Expr}
use Rattle.c_ast.specs.declared.expr.Expr.TheOpen.{Expr-F}
use Rattle.c_ast.specs.declared.expr.Expr.TheFolds.{fold-Expr}
use Rattle.c_ast.specs.declared.stmt.Stmt.{Stmt}
use Rattle.c_ast.specs.declared.stmt.Stmt.TheOpen.{Stmt-F}
use Rattle.c_ast.specs.declared.stmt.Stmt.TheFolds.{fold-Stmt}

-- the calls of an expression, from those of its parts
abbrev pub calls_level : Expr-F (List ℕ) → List ℕ
calls_level (Expr-F.Lit n) = []
calls_level (Expr-F.Var v) = []
calls_level (Expr-F.Unary op a) = a
calls_level (Expr-F.Binary op a b) = a ++ b
calls_level (Expr-F.Choose c a b) = c ++ a ++ b
calls_level (Expr-F.Apply f arguments) = f ∷ concat arguments

-- the functions that an expression calls, from left to right, each as often as it is called there
abbrev pub calls : Expr → List ℕ
calls = fold-Expr (List ℕ) calls_level

-- the calls of a statement, from those of the statements in it
abbrev pub calls_in_level : Stmt-F (List ℕ) → List ℕ
calls_in_level Stmt-F.Empty = []
calls_in_level (Stmt-F.Declare name value) = list_of_option calls value
calls_in_level (Stmt-F.Assign name value) = calls value
calls_in_level (Stmt-F.If test inner other) = calls test ++ inner ++ list_of_option (λ fs. fs) other
calls_in_level (Stmt-F.While test body) = calls test ++ body
calls_in_level (Stmt-F.DoWhile body test) = body ++ calls test
calls_in_level (Stmt-F.For first test change body) =
    concat first ++ list_of_option calls test ++ list_of_option (λ fs. fs) change ++ body
calls_in_level (Stmt-F.Break token) = []
calls_in_level (Stmt-F.Continue token) = []
calls_in_level (Stmt-F.Return value) = calls value
calls_in_level (Stmt-F.Block inner) = concat inner

-- the functions that a statement calls, in the order of its parts, also where nothing leads
abbrev pub calls_in : Stmt → List ℕ
calls_in = fold-Stmt (List ℕ) calls_in_level
