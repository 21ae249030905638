-- An expression is straight over n parameters exactly where it is straight and its variables are
-- slots of parameters.
use Rattle.std.proofs.Common.{◌≡◌, ◌∙◌, ap, refl, sym, subst, ℕ, Bool, true, false, ◌&&◌, List}
use Rattle.std.specs.Prelude.{nat_lt}
use Rattle.std.specs.List.{list_all}
use Rattle.std.proofs.lemmas.List.Folds.{list_all-append}
use Rattle.rx_plain.proofs.Booleans.{and_exchange}
use Rattle.c_ast.specs.Forms as over_parameters
use Rattle.c_ast.specs.Forms.{is_sign, is_sum_or_product}
use Rattle.c_ast.specs.RowForms.{Forms, forms_level, forms, is_straight}
use Rattle.c_ast.specs.Variables.{variables, variables_level}
use Rattle.c_ast.specs.declared.expr.Expr.{Expr}
use Rattle.c_ast.specs.declared.expr.Expr.TheOpen.{Expr-F}
use Rattle.c_ast.specs.declared.expr.Expr.TheFolds.{map-Expr, fold-roll-Expr, ind-Expr}
use Rattle.c_ast.specs.declared.expr.Expr.TheViews.{roll-Expr}

module _ (count : ℕ) where
  -- whether all these variables are parameters
  abbrev all_parameters : List ℕ → Bool
  all_parameters = list_all (λ v. nat_lt v count)

  -- the test over parameters says both
  abbrev SaysBoth : Bool → Forms → List ℕ → Type 0
  SaysBoth whole f vs = whole ≡ (f.straight && all_parameters vs)

  variable_says : (b : Bool) → b ≡ (true && (b && true))
  variable_says true = refl
  variable_says false = refl

  unary_says : (sign whole straight all : Bool) → whole ≡ (straight && all) → (sign && whole) ≡
      ((sign && straight) && all)
  unary_says true whole straight all is = is
  unary_says false whole straight all is = refl

  binary_says : (sum a b left right us vs : Bool) → a ≡ (left && us) → b ≡ (right && vs) →
      (sum && (a && b)) ≡ ((sum && (left && right)) && (us && vs))
  binary_says false a b left right us vs is_a is_b = refl
  binary_says true a b left right us vs is_a is_b =
      (λ i. is_a i && is_b i) ∙ and_exchange left us right vs

  abbrev whole : Expr → Bool
  whole = over_parameters.is_straight count

  abbrev Part : Type 0
  Part = (e : Expr) × SaysBoth (whole e) (forms e) (variables e)

  level : (y : Expr-F Part) → SaysBoth (over_parameters.is_straight_level count
      (map-Expr Expr Bool whole (map-Expr Part Expr (λ p. p.0) y)))
      (forms_level (map-Expr Expr Forms forms (map-Expr Part Expr (λ p. p.0) y)))
      (variables_level (map-Expr Expr (List ℕ) variables (map-Expr Part Expr (λ p. p.0) y)))
  level (Expr-F.Lit k) = refl
  level (Expr-F.Var v) = variable_says (nat_lt v count)
  level (Expr-F.Unary op p) =
      unary_says (is_sign op) (whole p.0) (is_straight p.0) (all_parameters (variables p.0)) p.1
  level (Expr-F.Binary op p q) =
      binary_says (is_sum_or_product op) (whole p.0) (whole q.0) (is_straight p.0) (is_straight q.0)
      (all_parameters (variables p.0)) (all_parameters (variables q.0)) p.1 q.1
      ∙ ap (λ all. (is_sum_or_product op && (is_straight p.0 && is_straight q.0)) && all)
      (sym (list_all-append (λ v. nat_lt v count) (variables p.0) (variables q.0)))
  level (Expr-F.Choose c p q) = refl
  level (Expr-F.Apply f ps) = refl

  step : (x : Expr-F Expr) (y : Expr-F Part) → map-Expr Part Expr (λ p. p.0) y ≡ x →
      SaysBoth (whole (roll-Expr x)) (forms (roll-Expr x)) (variables (roll-Expr x))
  step x y is =
      let P : Expr-F Expr → Type 0 = λ z. SaysBoth
      (over_parameters.is_straight_level count (map-Expr Expr Bool whole z))
      (forms_level (map-Expr Expr Forms forms z))
      (variables_level (map-Expr Expr (List ℕ) variables z)) in
      let opened : P x = subst P is (level y) in
      fold-roll-Expr Bool (over_parameters.is_straight_level count) x ∙ opened
      ∙ (λ i. (sym (fold-roll-Expr Forms forms_level x) i).straight &&
      all_parameters (sym (fold-roll-Expr (List ℕ) variables_level x) i))

  -- an expression is straight over parameters where it is straight, and its variables are
  -- parameters
  pub straight_over_parameters : (e : Expr) → over_parameters.is_straight count e ≡
      (is_straight e && list_all (λ v. nat_lt v count) (variables e))
  straight_over_parameters = ind-Expr (λ e. SaysBoth (whole e) (forms e) (variables e)) step
