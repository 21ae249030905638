-- The heights of a list of statements and of the head of a `for`.
use Rattle.std.specs.Prelude.{ℕ, max, List, map}
use Rattle.c_ast.specs.declared.stmt.Stmt.{Stmt}
use Rattle.c_ast.specs.Height.{greatest, of_option, expr_height, stmt_height}
use Rattle.c_syntax.specs.declared.tree.Head.{Head}

-- the greatest height of statements, 0 where there is none
abbrev pub list_height : List Stmt → ℕ
list_height ss = greatest (map stmt_height ss)

-- the greatest height of the parts of the head of a `for`
abbrev pub head_height : Head → ℕ
head_height h =
    max (max (list_height h.first) (of_option expr_height h.test)) (of_option stmt_height h.change)
