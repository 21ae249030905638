-- The number of loops of each form of statement.
use Rattle.std.proofs.Common.{◌≡◌, ℕ, suc, ◌+◌, List, map, Option, None, Some, refl, ◌∙◌}
use Rattle.c_ast.specs.declared.expr.Expr.{Expr}
use Rattle.c_ast.specs.declared.stmt.Stmt.{Stmt}
use Rattle.c_ast.specs.declared.stmt.Stmt.TheVariants as Syntax
use Rattle.c_ast.specs.declared.stmt.Stmt.TheFolds.{fold_out-Stmt}
use Rattle.rx_agreement.proofs.Loops.{loops, loops_level, total}

pub loops-If-None : (e : Expr) (t : Stmt) → loops (Syntax.If e t None) ≡ loops t + 0
loops-If-None e t =
    fold_out-Stmt ℕ loops_level (Syntax.If e t None) ∙ rw (Syntax.outs-If e t None) refl

pub loops-If-Some : (e : Expr) (t u : Stmt) → loops (Syntax.If e t (Some u)) ≡ loops t + loops u
loops-If-Some e t u =
    fold_out-Stmt ℕ loops_level (Syntax.If e t (Some u)) ∙ rw (Syntax.outs-If e t (Some u)) refl

pub loops-While : (e : Expr) (t : Stmt) → loops (Syntax.While e t) ≡ suc (loops t)
loops-While e t = fold_out-Stmt ℕ loops_level (Syntax.While e t) ∙ rw (Syntax.outs-While e t) refl

pub loops-DoWhile : (t : Stmt) (e : Expr) → loops (Syntax.DoWhile t e) ≡ suc (loops t)
loops-DoWhile t e =
    fold_out-Stmt ℕ loops_level (Syntax.DoWhile t e) ∙ rw (Syntax.outs-DoWhile t e) refl

pub loops-For-None : (first : List Stmt) (test : Option Expr) (t : Stmt) →
    loops (Syntax.For first test None t) ≡ total (map loops first) + suc (loops t + 0)
loops-For-None first test t =
    fold_out-Stmt ℕ loops_level (Syntax.For first test None t) ∙
    rw (Syntax.outs-For first test None t) refl

pub loops-For-Some : (first : List Stmt) (test : Option Expr) (c t : Stmt) →
    loops (Syntax.For first test (Some c) t) ≡ total (map loops first) + suc (loops t + loops c)
loops-For-Some first test c t =
    fold_out-Stmt ℕ loops_level (Syntax.For first test (Some c) t) ∙
    rw (Syntax.outs-For first test (Some c) t) refl

pub loops-Block : (ts : List Stmt) → loops (Syntax.Block ts) ≡ total (map loops ts)
loops-Block ts = fold_out-Stmt ℕ loops_level (Syntax.Block ts) ∙ rw (Syntax.outs-Block ts) refl
