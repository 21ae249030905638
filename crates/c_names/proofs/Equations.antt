-- What a resolved expression is where it is a call.
use Rattle.std.proofs.Common.{◌≡◌, ◌∙◌, ap, ℕ, List, map, length, Ok}
use Rattle.std.proofs.lemmas.List.{length-map}
use Rattle.c_ast.specs.declared.expr.Expr.{Expr}
use Rattle.c_ast.specs.declared.expr.Expr.TheVariants.{Apply, outs-Apply}
use Rattle.c_ast.specs.declared.expr.Expr.TheFolds.{fold_out-Expr}
use Rattle.c_ast.specs.declared.program.Function.{Function}
use Rattle.c_names.specs.Names.{name_at}
use Rattle.c_names.specs.Slots.{slot_of}
use Rattle.c_names.specs.Expressions.{callee_of, resolved_expr, expr_level}
use Rattle.c_names.specs.Steps.{Checked, and_then, sequence}

-- a call is resolved by its name, and then by its arguments
pub resolved_call : (names : List ℕ) (functions : List Function) (scope : List ℕ) (token : ℕ)
    (arguments : List Expr) → resolved_expr names functions scope (Apply token arguments) ≡
    and_then (callee_of names functions token (length arguments)
    (slot_of scope (name_at names token)))
    (λ place. and_then (sequence (map (resolved_expr names functions scope) arguments))
    (λ xs. Ok (Apply place xs)))
resolved_call names functions scope token arguments =
    fold_out-Expr (Checked Expr) (expr_level names functions scope) (Apply token arguments)
    ∙ rw (outs-Apply token arguments) (ap (λ n.
    and_then (callee_of names functions token n (slot_of scope (name_at names token)))
    (λ place. and_then (sequence (map (resolved_expr names functions scope) arguments))
    (λ xs. Ok (Apply place xs))))
    (length-map arguments (resolved_expr names functions scope)))
