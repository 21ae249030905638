-- The heights, the variables and the straight value of each form of tree, one equation for each.
use Rattle.std.proofs.Common.{◌≡◌, ℕ, ◌+◌, ◌≤◌, max, ℤ, Option, Some, None, List, [], ◌∷◌, ◌++◌, map, refl, ◌∙◌, arith}
use Rattle.std.specs.List.{concat}
use Rattle.c_ast.specs.Height.{greatest, expr_height, expr_height_level, stmt_height, stmt_height_level}
use Rattle.c_ast.specs.Variables.{variables, variables_level, stmt_variables, stmt_variables_level}
use Rattle.c_ast.specs.Straight.{binary_value, unary_value, straight_level, straight_value}
use Rattle.c_ast.specs.declared.expr.UnOp.{UnOp}
use Rattle.c_ast.specs.declared.expr.BinOp.{BinOp}
use Rattle.c_ast.specs.declared.expr.Expr.{Expr}
use Rattle.c_ast.specs.declared.expr.Expr.TheVariants.{Lit, Var, Unary, Binary, Choose, Apply, outs-Lit, outs-Var, outs-Unary, outs-Binary, outs-Choose, outs-Apply}
use Rattle.c_ast.specs.declared.expr.Expr.TheOpen.{Expr-F}
use Rattle.c_ast.specs.declared.expr.Expr.TheViews.{out-Expr}
use Rattle.c_ast.specs.declared.expr.Expr.TheFolds.{fold_out-Expr, map-Expr}
use Rattle.c_ast.specs.declared.stmt.Stmt.TheVariants.{Return, outs-Return}
use Rattle.c_ast.specs.declared.stmt.Stmt.TheFolds.{fold_out-Stmt}

-- a literal has height 1
pub height-Lit : (n : ℤ) → expr_height (Lit n) ≡ 1
height-Lit n = fold_out-Expr ℕ expr_height_level (Lit n) ∙ rw (outs-Lit n) refl

-- a variable has height 1
pub height-Var : (v : ℕ) → expr_height (Var v) ≡ 1
height-Var v = fold_out-Expr ℕ expr_height_level (Var v) ∙ rw (outs-Var v) refl

-- an operator before an operand is one higher than the operand
pub height-Unary : (op : UnOp) (a : Expr) → expr_height (Unary op a) ≡ 1 + expr_height a
height-Unary op a = fold_out-Expr ℕ expr_height_level (Unary op a) ∙ rw (outs-Unary op a) refl

-- an operator between two operands is one higher than the higher of them
pub height-Binary : (op : BinOp) (a b : Expr) → expr_height (Binary op a b) ≡ 1 +
    max (expr_height a) (expr_height b)
height-Binary op a b =
    fold_out-Expr ℕ expr_height_level (Binary op a b) ∙ rw (outs-Binary op a b) refl

-- a choice is one higher than the highest of its three parts
pub height-Choose : (c a b : Expr) → expr_height (Choose c a b) ≡ 1 +
    max (max (expr_height c) (expr_height a)) (expr_height b)
height-Choose c a b = fold_out-Expr ℕ expr_height_level (Choose c a b) ∙ rw (outs-Choose c a b) refl

-- a call is one higher than its highest argument
pub height-Apply : (name : ℕ) (arguments : List Expr) → expr_height (Apply name arguments) ≡ 1 +
    greatest (map expr_height arguments)
height-Apply name arguments =
    fold_out-Expr ℕ expr_height_level (Apply name arguments) ∙ rw (outs-Apply name arguments) refl

-- a return is one higher than its value
pub height-Return : (value : Expr) → stmt_height (Return value) ≡ 1 + expr_height value
height-Return value = fold_out-Stmt ℕ stmt_height_level (Return value) ∙ rw (outs-Return value) refl

-- a literal is its value
pub straight-Lit : (variable : ℕ → Option ℤ) (n : ℤ) → straight_value variable (Lit n) ≡ Some n
straight-Lit variable n =
    fold_out-Expr (Option ℤ) (straight_level variable) (Lit n) ∙ rw (outs-Lit n) refl

-- a variable has the value that it is given
pub straight-Var : (variable : ℕ → Option ℤ) (v : ℕ) → straight_value variable (Var v) ≡ variable v
straight-Var variable v =
    fold_out-Expr (Option ℤ) (straight_level variable) (Var v) ∙ rw (outs-Var v) refl

-- an operator between two operands takes their values, left before right
pub straight-Binary : (variable : ℕ → Option ℤ) (op : BinOp) (a b : Expr) →
    straight_value variable (Binary op a b) ≡
    binary_value op (straight_value variable a) (straight_value variable b)
straight-Binary variable op a b =
    fold_out-Expr (Option ℤ) (straight_level variable) (Binary op a b) ∙
    rw (outs-Binary op a b) refl

-- an operator before an operand takes its value
pub straight-Unary : (variable : ℕ → Option ℤ) (op : UnOp) (a : Expr) →
    straight_value variable (Unary op a) ≡ unary_value op (straight_value variable a)
straight-Unary variable op a =
    fold_out-Expr (Option ℤ) (straight_level variable) (Unary op a) ∙ rw (outs-Unary op a) refl

-- a choice has no straight value
pub straight-Choose : (variable : ℕ → Option ℤ) (c a b : Expr) →
    straight_value variable (Choose c a b) ≡ None
straight-Choose variable c a b =
    fold_out-Expr (Option ℤ) (straight_level variable) (Choose c a b) ∙ rw (outs-Choose c a b) refl

-- a call has no straight value
pub straight-Apply : (variable : ℕ → Option ℤ) (name : ℕ) (arguments : List Expr) →
    straight_value variable (Apply name arguments) ≡ None
straight-Apply variable name arguments =
    fold_out-Expr (Option ℤ) (straight_level variable) (Apply name arguments) ∙
    rw (outs-Apply name arguments) refl

-- one level of an expression is at least 1 high
level_positive : (y : Expr-F ℕ) → 1 ≤ expr_height_level y
level_positive (Expr-F.Lit n) = omega arith
level_positive (Expr-F.Var v) = omega arith
level_positive (Expr-F.Unary op a) = omega arith
level_positive (Expr-F.Binary op a b) = omega arith
level_positive (Expr-F.Choose c a b) = omega arith
level_positive (Expr-F.Apply name arguments) = omega arith

-- every expression is at least 1 high
pub height-positive : (e : Expr) → 1 ≤ expr_height e
height-positive e =
    let opened : expr_height e ≡ expr_height_level (map-Expr Expr ℕ expr_height (out-Expr e)) =
    fold_out-Expr ℕ expr_height_level e in
    rw opened (level_positive (map-Expr Expr ℕ expr_height (out-Expr e)))

-- a literal has no variables
pub variables-Lit : (n : ℤ) → variables (Lit n) ≡ []
variables-Lit n = fold_out-Expr (List ℕ) variables_level (Lit n) ∙ rw (outs-Lit n) refl

-- a variable is its own
pub variables-Var : (v : ℕ) → variables (Var v) ≡ v ∷ []
variables-Var v = fold_out-Expr (List ℕ) variables_level (Var v) ∙ rw (outs-Var v) refl

-- an operator before an operand has the operand's
pub variables-Unary : (op : UnOp) (a : Expr) → variables (Unary op a) ≡ variables a
variables-Unary op a =
    fold_out-Expr (List ℕ) variables_level (Unary op a) ∙ rw (outs-Unary op a) refl

-- an operator between two operands has those of the left and then those of the right
pub variables-Binary : (op : BinOp) (a b : Expr) → variables (Binary op a b) ≡ variables a ++
    variables b
variables-Binary op a b =
    fold_out-Expr (List ℕ) variables_level (Binary op a b) ∙ rw (outs-Binary op a b) refl

-- a choice has those of its three parts in order
pub variables-Choose : (c a b : Expr) → variables (Choose c a b) ≡ variables c ++ variables a ++
    variables b
variables-Choose c a b =
    fold_out-Expr (List ℕ) variables_level (Choose c a b) ∙ rw (outs-Choose c a b) refl

-- a call has those of its arguments in order
pub variables-Apply : (name : ℕ) (arguments : List Expr) → variables (Apply name arguments) ≡
    concat (map variables arguments)
variables-Apply name arguments =
    fold_out-Expr (List ℕ) variables_level (Apply name arguments) ∙
    rw (outs-Apply name arguments) refl

-- a return has the variables of its value
pub variables-Return : (value : Expr) → stmt_variables (Return value) ≡ variables value
variables-Return value =
    fold_out-Stmt (List ℕ) stmt_variables_level (Return value) ∙ rw (outs-Return value) refl
