-- The value of a comparison, `!`, `&&` or `||` is made of its condition; the condition of every
-- other expression of its value.
use Rattle.std.proofs.Common.{◌≡◌, ◌∙◌, refl, sym, ap, true, false}
use Rattle.c_ast.specs.declared.integers.Integers.{Integers}
use Rattle.c_ast.specs.declared.expr.UnOp.TheVariants as unary
use Rattle.c_ast.specs.declared.expr.BinOp.{BinOp}
use Rattle.c_ast.specs.declared.expr.Expr.{Expr}
use Rattle.c_ast.specs.declared.expr.Expr.TheOpen.{Expr-F}
use Rattle.c_ast.specs.declared.expr.Expr.TheViews.{out-Expr}
use Rattle.c_ast.specs.declared.expr.Expr.TheFolds.{map-Expr, fold_out-Expr}
use Rattle.rx_code.specs.Expressions.{Asked, binary_code, decides, expr_code, expr_level, is_logical, is_logical_level, kind_of, of_condition, of_value}
use Rattle.rx_code.specs.declared.kind.OpKind.{OpKind}
use Rattle.rx_code.specs.declared.kind.OpKind.TheVariants.{Arithmetic, Dividing, Comparing, Conjunction, Disjunction}

abbrev IsOfCondition : Asked → Type 0
IsOfCondition b = b ≡ of_condition b.condition

abbrev IsOfValue : Asked → Type 0
IsOfValue b = b ≡ of_value b.value

module _ (integers : Integers) where
  by_kind : (k : OpKind) (op : BinOp) (l r : Asked) → decides k ≡ true →
      IsOfCondition (binary_code integers k op l r)
  by_kind Comparing op l r is = refl
  by_kind Conjunction op l r is = refl
  by_kind Disjunction op l r is = refl
  by_kind Arithmetic op l r is = absurd cc
  by_kind Dividing op l r is = absurd cc

  by_form : (x : Expr-F Expr) → is_logical_level x ≡ true →
      IsOfCondition (expr_level integers (map-Expr Expr Asked (expr_code integers) x))
  by_form (Expr-F.Lit k) is = absurd cc
  by_form (Expr-F.Var v) is = absurd cc
  by_form (Expr-F.Unary unary.Not e) is = refl
  by_form (Expr-F.Unary unary.Plus e) is = absurd cc
  by_form (Expr-F.Unary unary.Minus e) is = absurd cc
  by_form (Expr-F.Binary op l r) is =
      by_kind (kind_of op) op (expr_code integers l) (expr_code integers r) is
  by_form (Expr-F.Choose c a b) is = absurd cc
  by_form (Expr-F.Apply f es) is = absurd cc

  -- the first
  pub logical_code : (e : Expr) → is_logical e ≡ true → expr_code integers e ≡
      of_condition (expr_code integers e).condition
  logical_code e is =
      let f = fold_out-Expr Asked (expr_level integers) e in f ∙
      (by_form (out-Expr e) is ∙ ap (λ (b : Asked). of_condition b.condition) (sym f))

  kind_of_value : (k : OpKind) (op : BinOp) (l r : Asked) → decides k ≡ false →
      IsOfValue (binary_code integers k op l r)
  kind_of_value Arithmetic op l r is = refl
  kind_of_value Dividing op l r is = refl
  kind_of_value Comparing op l r is = absurd cc
  kind_of_value Conjunction op l r is = absurd cc
  kind_of_value Disjunction op l r is = absurd cc

  form_of_value : (x : Expr-F Expr) → is_logical_level x ≡ false →
      IsOfValue (expr_level integers (map-Expr Expr Asked (expr_code integers) x))
  form_of_value (Expr-F.Lit k) is = refl
  form_of_value (Expr-F.Var v) is = refl
  form_of_value (Expr-F.Unary unary.Not e) is = absurd cc
  form_of_value (Expr-F.Unary unary.Plus e) is = refl
  form_of_value (Expr-F.Unary unary.Minus e) is = refl
  form_of_value (Expr-F.Binary op l r) is =
      kind_of_value (kind_of op) op (expr_code integers l) (expr_code integers r) is
  form_of_value (Expr-F.Choose c a b) is = refl
  form_of_value (Expr-F.Apply f es) is = refl

  -- the other
  pub computed_code : (e : Expr) → is_logical e ≡ false → expr_code integers e ≡
      of_value (expr_code integers e).value
  computed_code e is =
      let f = fold_out-Expr Asked (expr_level integers) e in f ∙
      (form_of_value (out-Expr e) is ∙ ap (λ (b : Asked). of_value b.value) (sym f))
