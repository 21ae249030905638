-- The height and the variables of each form of statement, one equation for each, and the heights of
-- lists.
use Rattle.std.proofs.Common.{◌≡◌, ℕ, ◌+◌, ◌≤◌, max, Option, Some, None, List, [], ◌∷◌, ◌++◌, map, refl, ◌∙◌, arith}
use Rattle.std.specs.List.{concat}
use Rattle.c_ast.specs.Height.{greatest, of_option, expr_height, stmt_height, stmt_height_level}
use Rattle.c_ast.specs.Variables.{variables, list_of_option, stmt_variables, stmt_variables_level}
use Rattle.c_ast.specs.declared.expr.Expr.{Expr}
use Rattle.c_ast.specs.declared.stmt.Stmt.{Stmt}
use Rattle.c_ast.specs.declared.stmt.Stmt.TheVariants.{Empty, Declare, Assign, If, While, DoWhile, For, Break, Continue, Block, outs-Empty, outs-Declare, outs-Assign, outs-If, outs-While, outs-DoWhile, outs-For, outs-Break, outs-Continue, outs-Block}
use Rattle.c_ast.specs.declared.stmt.Stmt.TheOpen.{Stmt-F}
use Rattle.c_ast.specs.declared.stmt.Stmt.TheViews.{out-Stmt}
use Rattle.c_ast.specs.declared.stmt.Stmt.TheFolds.{fold_out-Stmt, map-Stmt}

pub height-Empty : stmt_height Empty ≡ 1
height-Empty = fold_out-Stmt ℕ stmt_height_level Empty ∙ rw outs-Empty refl

pub height-Declare : (name : ℕ) (value : Option Expr) → stmt_height (Declare name value) ≡ 1 +
    of_option expr_height value
height-Declare name value =
    fold_out-Stmt ℕ stmt_height_level (Declare name value) ∙ rw (outs-Declare name value) refl

pub height-Assign : (name : ℕ) (value : Expr) → stmt_height (Assign name value) ≡ 1 +
    expr_height value
height-Assign name value =
    fold_out-Stmt ℕ stmt_height_level (Assign name value) ∙ rw (outs-Assign name value) refl

pub height-alone : (e : Expr) (s : Stmt) → stmt_height (If e s None) ≡ 1 +
    max (expr_height e) (stmt_height s)
height-alone e s =
    let opened : stmt_height (If e s None) ≡ 1 + max (max (expr_height e) (stmt_height s)) 0 =
    fold_out-Stmt ℕ stmt_height_level (If e s None) ∙ rw (outs-If e s None) refl in
    omega arith

pub height-else : (e : Expr) (s t : Stmt) → stmt_height (If e s (Some t)) ≡ 1 +
    max (max (expr_height e) (stmt_height s)) (stmt_height t)
height-else e s t =
    fold_out-Stmt ℕ stmt_height_level (If e s (Some t)) ∙ rw (outs-If e s (Some t)) refl

pub height-While : (e : Expr) (s : Stmt) → stmt_height (While e s) ≡ 1 +
    max (expr_height e) (stmt_height s)
height-While e s = fold_out-Stmt ℕ stmt_height_level (While e s) ∙ rw (outs-While e s) refl

pub height-DoWhile : (s : Stmt) (e : Expr) → stmt_height (DoWhile s e) ≡ 1 +
    max (stmt_height s) (expr_height e)
height-DoWhile s e = fold_out-Stmt ℕ stmt_height_level (DoWhile s e) ∙ rw (outs-DoWhile s e) refl

pub height-For : (first : List Stmt) (test : Option Expr) (change : Option Stmt) (s : Stmt)
    → stmt_height (For first test change s) ≡ 1 +
    max (max (max (greatest (map stmt_height first)) (of_option expr_height test))
    (stmt_height s)) (of_option stmt_height change)
height-For first test None s =
    fold_out-Stmt ℕ stmt_height_level (For first test None s) ∙ rw (outs-For first test None s) refl
height-For first test (Some t) s =
    fold_out-Stmt ℕ stmt_height_level (For first test (Some t) s) ∙
    rw (outs-For first test (Some t) s) refl

pub height-Break : (token : ℕ) → stmt_height (Break token) ≡ 1
height-Break token = fold_out-Stmt ℕ stmt_height_level (Break token) ∙ rw (outs-Break token) refl

pub height-Continue : (token : ℕ) → stmt_height (Continue token) ≡ 1
height-Continue token =
    fold_out-Stmt ℕ stmt_height_level (Continue token) ∙ rw (outs-Continue token) refl

pub height-Block : (inner : List Stmt) → stmt_height (Block inner) ≡ 1 +
    greatest (map stmt_height inner)
height-Block inner = fold_out-Stmt ℕ stmt_height_level (Block inner) ∙ rw (outs-Block inner) refl

-- one level of a statement is at least 1 high
level_positive : (y : Stmt-F ℕ) → 1 ≤ stmt_height_level y
level_positive Stmt-F.Empty = omega arith
level_positive (Stmt-F.Declare name value) = omega arith
level_positive (Stmt-F.Assign name value) = omega arith
level_positive (Stmt-F.If test then other) = omega arith
level_positive (Stmt-F.While test body) = omega arith
level_positive (Stmt-F.DoWhile body test) = omega arith
level_positive (Stmt-F.For first test change body) = omega arith
level_positive (Stmt-F.Break token) = omega arith
level_positive (Stmt-F.Continue token) = omega arith
level_positive (Stmt-F.Return value) = omega arith
level_positive (Stmt-F.Block inner) = omega arith

-- every statement is at least 1 high
pub statement_positive : (s : Stmt) → 1 ≤ stmt_height s
statement_positive s =
    let opened : stmt_height s ≡ stmt_height_level (map-Stmt Stmt ℕ stmt_height (out-Stmt s)) =
    fold_out-Stmt ℕ stmt_height_level s in
    rw opened (level_positive (map-Stmt Stmt ℕ stmt_height (out-Stmt s)))

-- the greatest height of two lists in a row
pub height-append : (xs ys : List Stmt) → greatest (map stmt_height (xs ++ ys)) ≡
    max (greatest (map stmt_height xs)) (greatest (map stmt_height ys))
height-append [] ys = omega arith
height-append (x ∷ xs) ys =
    let rest : greatest (map stmt_height (xs ++ ys)) ≡
    max (greatest (map stmt_height xs)) (greatest (map stmt_height ys)) = height-append xs ys in
    omega arith

pub variables-Empty : stmt_variables Empty ≡ []
variables-Empty = fold_out-Stmt (List ℕ) stmt_variables_level Empty ∙ rw outs-Empty refl

pub variables-Declare : (name : ℕ) (value : Option Expr) → stmt_variables (Declare name value) ≡
    name ∷ list_of_option variables value
variables-Declare name value =
    fold_out-Stmt (List ℕ) stmt_variables_level (Declare name value) ∙
    rw (outs-Declare name value) refl

pub variables-Assign : (name : ℕ) (value : Expr) → stmt_variables (Assign name value) ≡ name ∷
    variables value
variables-Assign name value =
    fold_out-Stmt (List ℕ) stmt_variables_level (Assign name value) ∙
    rw (outs-Assign name value) refl

pub variables-alone : (e : Expr) (s : Stmt) → stmt_variables (If e s None) ≡ variables e ++
    stmt_variables s ++ []
variables-alone e s =
    fold_out-Stmt (List ℕ) stmt_variables_level (If e s None) ∙ rw (outs-If e s None) refl

pub variables-else : (e : Expr) (s t : Stmt) → stmt_variables (If e s (Some t)) ≡ variables e ++
    stmt_variables s ++ stmt_variables t
variables-else e s t =
    fold_out-Stmt (List ℕ) stmt_variables_level (If e s (Some t)) ∙ rw (outs-If e s (Some t)) refl

pub variables-While : (e : Expr) (s : Stmt) → stmt_variables (While e s) ≡ variables e ++
    stmt_variables s
variables-While e s =
    fold_out-Stmt (List ℕ) stmt_variables_level (While e s) ∙ rw (outs-While e s) refl

pub variables-DoWhile : (s : Stmt) (e : Expr) → stmt_variables (DoWhile s e) ≡ stmt_variables s ++
    variables e
variables-DoWhile s e =
    fold_out-Stmt (List ℕ) stmt_variables_level (DoWhile s e) ∙ rw (outs-DoWhile s e) refl

pub variables-For : (first : List Stmt) (test : Option Expr) (change : Option Stmt) (s : Stmt)
    → stmt_variables (For first test change s) ≡ concat (map stmt_variables first) ++
    list_of_option variables test ++ list_of_option stmt_variables change ++ stmt_variables s
variables-For first test None s =
    fold_out-Stmt (List ℕ) stmt_variables_level (For first test None s) ∙
    rw (outs-For first test None s) refl
variables-For first test (Some t) s =
    fold_out-Stmt (List ℕ) stmt_variables_level (For first test (Some t) s) ∙
    rw (outs-For first test (Some t) s) refl

pub variables-Break : (token : ℕ) → stmt_variables (Break token) ≡ []
variables-Break token =
    fold_out-Stmt (List ℕ) stmt_variables_level (Break token) ∙ rw (outs-Break token) refl

pub variables-Continue : (token : ℕ) → stmt_variables (Continue token) ≡ []
variables-Continue token =
    fold_out-Stmt (List ℕ) stmt_variables_level (Continue token) ∙ rw (outs-Continue token) refl

pub variables-Block : (inner : List Stmt) → stmt_variables (Block inner) ≡
    concat (map stmt_variables inner)
variables-Block inner =
    fold_out-Stmt (List ℕ) stmt_variables_level (Block inner) ∙ rw (outs-Block inner) refl
