-- What a function returns, where it is straight, from the steps that find it.
use Rattle.std.proofs.Common.{◌≡◌, ℕ, true, false, List, Some, None, length, refl, sym, ap, ◌∙◌}
use Rattle.c_ast.specs.Forms.{is_straight, returned, only_straight, straight_of}
use Rattle.c_ast.specs.declared.expr.Expr.{Expr}
use Rattle.c_ast.specs.declared.stmt.Stmt.{Stmt}
use Rattle.c_ast.specs.declared.program.Function.{Function}

module _ (f : Function) (body : List Stmt) (count : ℕ) (e : Expr) (is_body : body ≡ f.body)
    (is_count : count ≡ length f.params) (is : Some e ≡ returned body) where
  -- what is kept of what the body returns
  opened : only_straight count (Some e) ≡ straight_of f
  opened =
      ap (only_straight count) (is ∙ ap returned is_body) ∙
      ap (λ n. only_straight n (returned f.body)) is_count

  -- a straight expression is kept
  pub kept : true ≡ is_straight count e → Some e ≡ straight_of f
  kept straight =
      let there : only_straight count (Some e) ≡ Some e = rw (sym straight) refl in sym there ∙
      opened

  -- any other isn't
  pub left_out : false ≡ is_straight count e → None ≡ straight_of f
  left_out other =
      let there : only_straight count (Some e) ≡ None = rw (sym other) refl in sym there ∙ opened
