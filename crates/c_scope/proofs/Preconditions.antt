-- A precondition with its names resolved keeps its form, and has no variables but parameters.
use Rattle.std.proofs.Common.{◌≡◌, ◌∙◌, ap, sym, subst, ℕ, ◌<◌, ℤ, false, Option, Some, List, [], ◌++◌, length, Ok, Err}
use Rattle.std.specs.List.{All}
use Rattle.std.proofs.lemmas.List.Elements.{All-append, All-cons, All-nil}
use Rattle.c_lex.specs.declared.token.Token.{Token}
use Rattle.c_ast.specs.RowForms.{Forms, forms_level, forms, is_row_form, is_straight}
use Rattle.c_ast.specs.Variables.{variables}
use Rattle.c_ast.proofs.Equations.{variables-Lit, variables-Var, variables-Unary, variables-Binary, variables-Choose}
use Rattle.c_ast.proofs.CallEquations.{calls-Lit, calls-Var, calls-Unary, calls-Binary, calls-Choose}
use Rattle.c_ast.specs.Calls.{calls}
use Rattle.c_ast.proofs.FormEquations.{forms-Lit, forms-Var, forms-Unary, forms-Binary, forms-Choose}
use Rattle.c_ast.specs.declared.expr.UnOp.{UnOp}
use Rattle.c_ast.specs.declared.expr.BinOp.{BinOp}
use Rattle.c_ast.specs.declared.expr.Expr.{Expr}
use Rattle.c_ast.specs.declared.expr.Expr.TheVariants.{Lit, Var, Unary, Binary, Choose}
use Rattle.c_ast.specs.declared.expr.Expr.TheOpen.{Expr-F}
use Rattle.c_ast.specs.declared.expr.Expr.TheFolds.{fold-Expr, map-Expr, fold-roll-Expr, ind-Expr}
use Rattle.c_ast.specs.declared.expr.Expr.TheViews.{roll-Expr}
use Rattle.c_names.specs.Expressions.{ok_or_unknown}
use Rattle.c_names.specs.Preconditions.{pre_level, param_of, resolved_pre}
use Rattle.c_names.specs.Steps.{Checked, and_then}
use Rattle.c_names.specs.declared.error.ScopeEnd.TheVariants.{UnknownName}
use Rattle.c_scope.proofs.Steps.{same_Ok, no_fault, found}
use Rattle.c_scope.proofs.Places.{parameter_within}
use Rattle.c_scope.proofs.Expressions.{known_is}

module _ (slot : ℕ → Option ℕ) where
  abbrev resolved : Expr → Checked Expr
  resolved = fold-Expr (Checked Expr) (pre_level slot)

  -- what was resolved is in these forms
  abbrev HasForms : Checked Expr → Forms → Type 0
  HasForms whole these = (x : Expr) → whole ≡ Ok x → forms x ≡ these

  abbrev FormPart : Type 0
  FormPart = (e : Expr) × HasForms (resolved e) (forms e)

  literal_forms : (k : ℤ) → HasForms (Ok (Lit k)) (forms_level (Expr-F.Lit k))
  literal_forms k x is = ap forms (sym (same_Ok (Lit k) x is)) ∙ forms-Lit k

  call_forms : (token : ℕ) → HasForms (Err (UnknownName token))
      (record { straight = false; row = false })
  call_forms token x is = no_fault (UnknownName token) x is

  var_forms : (token : ℕ) → HasForms (and_then (ok_or_unknown token (slot token)) (λ s. Ok (Var s)))
      (forms_level (Expr-F.Var token))
  var_forms token x is =
      let h = found (ok_or_unknown token (slot token)) _ x is in
      ap forms (sym (same_Ok (Var h.0) x h.2)) ∙
      forms-Var h.0

  unary_forms : (op : UnOp) (a : Checked Expr) (f : Forms) → HasForms a f →
      HasForms (and_then a (λ u. Ok (Unary op u))) (forms_level (Expr-F.Unary op f))
  unary_forms op a f fits x is =
      let h = found _ _ x is in
      ap forms (sym (same_Ok (Unary op h.0) x h.2)) ∙ forms-Unary op h.0 ∙
      ap (λ k. forms_level (Expr-F.Unary op k)) (fits h.0 h.1)

  binary_forms : (op : BinOp) (a b : Checked Expr) (f g : Forms) → HasForms a f → HasForms b g
      → HasForms (and_then a (λ u. and_then b (λ v. Ok (Binary op u v))))
      (forms_level (Expr-F.Binary op f g))
  binary_forms op a b f g left right x is =
      let h = found _ _ x is in
      let k = found _ _ x h.2 in
      ap forms (sym (same_Ok (Binary op h.0 k.0) x k.2)) ∙ forms-Binary op h.0 k.0
      ∙ (λ i. forms_level (Expr-F.Binary op (left h.0 h.1 i) (right k.0 k.1 i)))

  choose_forms : (c a b : Checked Expr) (e f g : Forms) →
      HasForms (and_then c (λ t. and_then a (λ u. and_then b (λ v. Ok (Choose t u v)))))
      (forms_level (Expr-F.Choose e f g))
  choose_forms c a b e f g x is =
      let t = found c _ x is in
      let h = found a _ x t.2 in
      let k = found b _ x h.2 in
      ap forms (sym (same_Ok (Choose t.0 h.0 k.0) x k.2)) ∙ forms-Choose t.0 h.0 k.0

  form_level : (y : Expr-F FormPart) → HasForms
      (pre_level slot (map-Expr Expr (Checked Expr) resolved (map-Expr FormPart Expr (λ p. p.0) y)))
      (forms_level (map-Expr Expr Forms forms (map-Expr FormPart Expr (λ p. p.0) y)))
  form_level (Expr-F.Lit k) = literal_forms k
  form_level (Expr-F.Var token) = var_forms token
  form_level (Expr-F.Unary op p) = unary_forms op (resolved p.0) (forms p.0) p.1
  form_level (Expr-F.Binary op p q) =
      binary_forms op (resolved p.0) (resolved q.0) (forms p.0) (forms q.0) p.1 q.1
  form_level (Expr-F.Choose c p q) =
      choose_forms (resolved c.0) (resolved p.0) (resolved q.0) (forms c.0) (forms p.0) (forms q.0)
  form_level (Expr-F.Apply token ps) = call_forms token

  form_step : (x : Expr-F Expr) (y : Expr-F FormPart) → map-Expr FormPart Expr (λ p. p.0) y ≡ x →
      HasForms (resolved (roll-Expr x)) (forms (roll-Expr x))
  form_step x y is =
      let P : Expr-F Expr → Type 0 = λ z. HasForms
      (pre_level slot (map-Expr Expr (Checked Expr) resolved z))
      (forms_level (map-Expr Expr Forms forms z)) in
      let opened : P x = subst P is (form_level y) in
      let V : Forms → Type 0 = λ f. HasForms (pre_level slot
      (map-Expr Expr (Checked Expr) resolved x)) f in
      let M : Checked Expr → Type 0 = λ m. HasForms m (forms (roll-Expr x)) in
      subst M (sym (fold-roll-Expr (Checked Expr) (pre_level slot) x))
      (subst V (sym (fold-roll-Expr Forms forms_level x)) opened)

  forms_kept : (e : Expr) → HasForms (resolved e) (forms e)
  forms_kept = ind-Expr (λ e. HasForms (resolved e) (forms e)) form_step

  -- each slot is below a number
  module _ (n : ℕ) (within : (token s : ℕ) → slot token ≡ Some s → s < n) where
    abbrev AreBelow : List ℕ → Type 0
    AreBelow = All (λ v. v < n)

    -- an expression that reads such slots alone, and calls nothing
    record IsPlain (x : Expr) : Type 0 where
      pub below : AreBelow (variables x)
      pub silent : calls x ≡ []

    abbrev Bounded : Checked Expr → Type 0
    Bounded whole = (x : Expr) → whole ≡ Ok x → IsPlain x

    abbrev BoundPart : Type 0
    BoundPart = (e : Expr) × Bounded (resolved e)

    none_below : AreBelow []
    none_below = All-nil (λ v. v < n)

    both_below : (us vs : List ℕ) → AreBelow us → AreBelow vs → AreBelow (us ++ vs)
    both_below = All-append (λ v. v < n)

    literal_bounded : (k : ℤ) → Bounded (Ok (Lit k))
    literal_bounded k x is =
        subst IsPlain (same_Ok (Lit k) x is) (record
        { below = subst AreBelow (sym (variables-Lit k)) none_below; silent = calls-Lit k })

    call_bounded : (token : ℕ) → Bounded (Err (UnknownName token))
    call_bounded token x is = no_fault (UnknownName token) x is

    var_bounded : (token : ℕ) → Bounded (and_then (ok_or_unknown token (slot token))
        (λ s. Ok (Var s)))
    var_bounded token x is =
        let h = found _ _ x is in
        let small : h.0 < n = within token h.0 (known_is token h.0 _ h.1) in
        let alone = All-cons (λ v. v < n) h.0 [] small none_below in
        subst IsPlain (same_Ok (Var h.0) x h.2)
        (record {
          below = subst AreBelow (sym (variables-Var h.0)) alone;
          silent =
              calls-Var h.0;
        })

    unary_bounded : (op : UnOp) (a : Checked Expr) → Bounded a →
        Bounded (and_then a (λ u. Ok (Unary op u)))
    unary_bounded op a bounded x is =
        let h = found _ _ x is in
        let inner = bounded h.0 h.1 in
        subst IsPlain (same_Ok (Unary op h.0) x h.2)
        (record {
          below = subst AreBelow (sym (variables-Unary op h.0)) inner.below;
          silent =
              calls-Unary op h.0 ∙ inner.silent;
        })

    binary_bounded : (op : BinOp) (a b : Checked Expr) → Bounded a → Bounded b →
        Bounded (and_then a (λ u. and_then b (λ v. Ok (Binary op u v))))
    binary_bounded op a b left right x is =
        let h = found _ _ x is in
        let k = found _ _ x h.2 in
        let first = left h.0 h.1 in
        let second = right k.0 k.1 in
        let both = both_below (variables h.0) (variables k.0) first.below second.below in
        subst IsPlain (same_Ok (Binary op h.0 k.0) x k.2) (record {
          below = subst AreBelow (sym (variables-Binary op h.0 k.0)) both;
          silent = calls-Binary op h.0 k.0 ∙ (λ i. first.silent i ++ second.silent i);
        })

    choose_bounded : (c a b : Checked Expr) → Bounded c → Bounded a → Bounded b →
        Bounded (and_then c (λ t. and_then a (λ u. and_then b (λ v. Ok (Choose t u v)))))
    choose_bounded c a b test left right x is =
        let t = found _ _ x is in
        let h = found _ _ x t.2 in
        let k = found _ _ x h.2 in
        let tested = test t.0 t.1 in
        let first = left h.0 h.1 in
        let second = right k.0 k.1 in
        let front = both_below (variables t.0) (variables h.0) tested.below first.below in
        let all = both_below (variables t.0 ++ variables h.0) (variables k.0) front second.below in
        subst IsPlain (same_Ok (Choose t.0 h.0 k.0) x k.2) (record {
          below = subst AreBelow (sym (variables-Choose t.0 h.0 k.0)) all;
          silent =
              calls-Choose t.0 h.0 k.0 ∙ (λ i. tested.silent i ++ first.silent i ++
              second.silent i);
        })

    bound_level : (y : Expr-F BoundPart) → Bounded
        (pre_level slot (map-Expr Expr (Checked Expr) resolved
        (map-Expr BoundPart Expr (λ p. p.0) y)))
    bound_level (Expr-F.Lit k) = literal_bounded k
    bound_level (Expr-F.Var token) = var_bounded token
    bound_level (Expr-F.Unary op p) = unary_bounded op (resolved p.0) p.1
    bound_level (Expr-F.Binary op p q) = binary_bounded op (resolved p.0) (resolved q.0) p.1 q.1
    bound_level (Expr-F.Choose c p q) =
        choose_bounded (resolved c.0) (resolved p.0) (resolved q.0) c.1 p.1 q.1
    bound_level (Expr-F.Apply token ps) = call_bounded token

    bound_step : (x : Expr-F Expr) (y : Expr-F BoundPart) → map-Expr BoundPart Expr (λ p. p.0) y ≡
        x → Bounded (resolved (roll-Expr x))
    bound_step x y is =
        let P : Expr-F Expr → Type 0 = λ z. Bounded
        (pre_level slot (map-Expr Expr (Checked Expr) resolved z)) in
        let opened : P x = subst P is (bound_level y) in
        let M : Checked Expr → Type 0 = λ m. Bounded m in
        subst M (sym (fold-roll-Expr (Checked Expr) (pre_level slot) x)) opened

    all_bounded : (e : Expr) → Bounded (resolved e)
    all_bounded = ind-Expr (λ e. Bounded (resolved e)) bound_step

module _ (source : List ℕ) (tokens : List Token) (params pre_source : List ℕ)
    (pre_tokens : List Token) (pre e : Expr) (is : resolved_pre source tokens params pre_source
    pre_tokens pre ≡ Ok e) where
  -- a precondition is a row form where it was one
  pub row_form_kept : is_row_form e ≡ is_row_form pre
  row_form_kept =
      ap (λ (f : Forms). f.row) (forms_kept (param_of source tokens params pre_source pre_tokens)
      pre e is)

  -- and straight where it was
  pub straight_kept : is_straight e ≡ is_straight pre
  straight_kept =
      ap (λ (f : Forms). f.straight) (forms_kept
      (param_of source tokens params pre_source pre_tokens) pre e is)

  -- it reads slots of parameters alone, and calls nothing
  pub parameters_alone : All (λ v. v < length params) (variables e)
  parameters_alone =
      (all_bounded (param_of source tokens params pre_source pre_tokens) (length params)
      (λ token s at. parameter_within source tokens params _ s at) pre e is).below

  pub no_calls : calls e ≡ []
  no_calls =
      (all_bounded (param_of source tokens params pre_source pre_tokens) (length params)
      (λ token s at. parameter_within source tokens params _ s at) pre e is).silent
