-- The calls of each form of tree, one equation for each.
use Rattle.std.proofs.Common.{◌≡◌, ◌∙◌, ap, refl, ℕ, ℤ, Option, Some, None, List, [], ◌∷◌, ◌++◌, map}
use Rattle.std.specs.List.{concat, flat_map}
use Rattle.c_ast.specs.Calls.{calls, calls_level, calls_in, calls_in_level}
use Rattle.c_ast.specs.Variables.{list_of_option}
use Rattle.c_ast.specs.declared.expr.UnOp.{UnOp}
use Rattle.c_ast.specs.declared.expr.BinOp.{BinOp}
use Rattle.c_ast.specs.declared.expr.Expr.{Expr}
use Rattle.c_ast.specs.declared.expr.Expr.TheVariants.{Lit, Var, Unary, Binary, Choose, Apply, outs-Lit, outs-Var, outs-Unary, outs-Binary, outs-Choose, outs-Apply}
use Rattle.c_ast.specs.declared.expr.Expr.TheFolds.{fold_out-Expr}
use Rattle.c_ast.specs.declared.stmt.Stmt.{Stmt}
use Rattle.c_ast.specs.declared.stmt.Stmt.TheVariants as Syntax
use Rattle.c_ast.specs.declared.stmt.Stmt.TheFolds.{fold_out-Stmt}

-- a literal and a variable call nothing
pub calls-Lit : (n : ℤ) → calls (Lit n) ≡ []
calls-Lit n = fold_out-Expr (List ℕ) calls_level (Lit n) ∙ rw (outs-Lit n) refl

pub calls-Var : (v : ℕ) → calls (Var v) ≡ []
calls-Var v = fold_out-Expr (List ℕ) calls_level (Var v) ∙ rw (outs-Var v) refl

-- an operator calls what its operands call, left before right
pub calls-Unary : (op : UnOp) (a : Expr) → calls (Unary op a) ≡ calls a
calls-Unary op a = fold_out-Expr (List ℕ) calls_level (Unary op a) ∙ rw (outs-Unary op a) refl

pub calls-Binary : (op : BinOp) (a b : Expr) → calls (Binary op a b) ≡ calls a ++ calls b
calls-Binary op a b =
    fold_out-Expr (List ℕ) calls_level (Binary op a b) ∙ rw (outs-Binary op a b) refl

pub calls-Choose : (c a b : Expr) → calls (Choose c a b) ≡ calls c ++ calls a ++ calls b
calls-Choose c a b = fold_out-Expr (List ℕ) calls_level (Choose c a b) ∙ rw (outs-Choose c a b) refl

-- a call is first, and then come those of its arguments
pub calls-Apply : (f : ℕ) (arguments : List Expr) → calls (Apply f arguments) ≡ f ∷
    concat (map calls arguments)
calls-Apply f arguments =
    fold_out-Expr (List ℕ) calls_level (Apply f arguments) ∙ rw (outs-Apply f arguments) refl

-- a statement calls what its parts call, in their order
pub calls_in-Empty : calls_in Syntax.Empty ≡ []
calls_in-Empty = fold_out-Stmt (List ℕ) calls_in_level Syntax.Empty ∙ rw Syntax.outs-Empty refl

pub calls_in-Declare : (slot : ℕ) (value : Option Expr) → calls_in (Syntax.Declare slot value) ≡
    list_of_option calls value
calls_in-Declare slot None =
    fold_out-Stmt (List ℕ) calls_in_level (Syntax.Declare slot None) ∙
    rw (Syntax.outs-Declare slot None) refl
calls_in-Declare slot (Some e) =
    fold_out-Stmt (List ℕ) calls_in_level (Syntax.Declare slot (Some e)) ∙
    rw (Syntax.outs-Declare slot (Some e)) refl

pub calls_in-Assign : (slot : ℕ) (value : Expr) → calls_in (Syntax.Assign slot value) ≡ calls value
calls_in-Assign slot value =
    fold_out-Stmt (List ℕ) calls_in_level (Syntax.Assign slot value) ∙
    rw (Syntax.outs-Assign slot value) refl

pub calls_in-If : (test : Expr) (inner : Stmt) (other : Option Stmt) →
    calls_in (Syntax.If test inner other) ≡ calls test ++ calls_in inner ++
    list_of_option calls_in other
calls_in-If test inner None =
    fold_out-Stmt (List ℕ) calls_in_level (Syntax.If test inner None) ∙
    rw (Syntax.outs-If test inner None) refl
calls_in-If test inner (Some other) =
    fold_out-Stmt (List ℕ) calls_in_level (Syntax.If test inner (Some other)) ∙
    rw (Syntax.outs-If test inner (Some other)) refl

pub calls_in-While : (test : Expr) (inner : Stmt) → calls_in (Syntax.While test inner) ≡
    calls test ++ calls_in inner
calls_in-While test inner =
    fold_out-Stmt (List ℕ) calls_in_level (Syntax.While test inner) ∙
    rw (Syntax.outs-While test inner) refl

pub calls_in-DoWhile : (inner : Stmt) (test : Expr) → calls_in (Syntax.DoWhile inner test) ≡
    calls_in inner ++ calls test
calls_in-DoWhile inner test =
    fold_out-Stmt (List ℕ) calls_in_level (Syntax.DoWhile inner test) ∙
    rw (Syntax.outs-DoWhile inner test) refl

pub calls_in-For : (first : List Stmt) (test : Option Expr) (change : Option Stmt) (inner : Stmt) →
    calls_in (Syntax.For first test change inner)
    ≡ concat (map calls_in first) ++ list_of_option calls test ++ list_of_option calls_in change ++
    calls_in inner
calls_in-For first None None inner =
    fold_out-Stmt (List ℕ) calls_in_level (Syntax.For first None None inner) ∙
    rw (Syntax.outs-For first None None inner) refl
calls_in-For first None (Some change) inner =
    fold_out-Stmt (List ℕ) calls_in_level (Syntax.For first None (Some change) inner) ∙
    rw (Syntax.outs-For first None (Some change) inner) refl
calls_in-For first (Some test) None inner =
    fold_out-Stmt (List ℕ) calls_in_level (Syntax.For first (Some test) None inner) ∙
    rw (Syntax.outs-For first (Some test) None inner) refl
calls_in-For first (Some test) (Some change) inner =
    fold_out-Stmt (List ℕ) calls_in_level (Syntax.For first (Some test) (Some change) inner) ∙
    rw (Syntax.outs-For first (Some test) (Some change) inner) refl

pub calls_in-Break : (token : ℕ) → calls_in (Syntax.Break token) ≡ []
calls_in-Break token =
    fold_out-Stmt (List ℕ) calls_in_level (Syntax.Break token) ∙ rw (Syntax.outs-Break token) refl

pub calls_in-Continue : (token : ℕ) → calls_in (Syntax.Continue token) ≡ []
calls_in-Continue token =
    fold_out-Stmt (List ℕ) calls_in_level (Syntax.Continue token) ∙
    rw (Syntax.outs-Continue token) refl

pub calls_in-Return : (value : Expr) → calls_in (Syntax.Return value) ≡ calls value
calls_in-Return value =
    fold_out-Stmt (List ℕ) calls_in_level (Syntax.Return value) ∙ rw (Syntax.outs-Return value) refl

pub calls_in-Block : (inner : List Stmt) → calls_in (Syntax.Block inner) ≡
    concat (map calls_in inner)
calls_in-Block inner =
    fold_out-Stmt (List ℕ) calls_in_level (Syntax.Block inner) ∙ rw (Syntax.outs-Block inner) refl

-- what statements call, joined in order
pub calls_of_list : (statements : List Stmt) → concat (map calls_in statements) ≡
    flat_map calls_in statements
calls_of_list [] = refl
calls_of_list (s ∷ ss) = ap (λ fs. calls_in s ++ fs) (calls_of_list ss)
