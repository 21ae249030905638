-- The variables of a term's normal form are those of the term.
use Rattle.std.proofs.Common.{◌≡◌, ◌∙◌, ap, subst, ℕ, Bool, true, sym, negsuc}
use Rattle.std.proofs.lemmas.Bool.{and_parts}
use Rattle.rx_plain.specs.Formed.{Formed}
use Rattle.rx_poly_laws.specs.Norm.{formed, norm_level, norm_of}
use Rattle.rx_poly.specs.declared.body.Body.{Body}
use Rattle.rx_poly_laws.specs.declared.iterm.ITerm.{ITerm, ITerm-F, roll-ITerm, map-ITerm, fold-roll-ITerm, ind-ITerm}
use Rattle.rx_poly_laws.specs.Variables.{term_passes, term_passes_level}
use Rattle.rx_poly_laws.specs.Tests.{passes}
use Rattle.rx_poly_laws.proofs.TestLaws.{passes-body_sum, passes-body_product, passes-number, passes-quotient_of, passes-remainder_of, passes-scaled_by, passes-variable}

module _ (test : ℕ → Bool) where
  abbrev Passes : ITerm → Type 0
  Passes t = term_passes test t ≡ true → passes test (norm_of t) ≡ true

  abbrev Such : Type 0
  Such = (t : ITerm) × Passes t

  abbrev bare : ITerm-F Such → ITerm-F ITerm
  bare = map-ITerm Such ITerm (λ (p : Such). p.0)

  -- by the parts of a term
  level : (y : ITerm-F Such) → term_passes_level test
      (map-ITerm ITerm Bool (term_passes test) (bare y)) ≡ true
      → passes test (norm_level (map-ITerm ITerm (Formed Body) formed (bare y))).form ≡ true
  level (ITerm-F.Var n) h = passes-variable test n h
  level (ITerm-F.Lit k) h = passes-number test k
  level (ITerm-F.Add l r) h =
      let both = and_parts (term_passes test l.0) (term_passes test r.0) h in
      passes-body_sum test (norm_of l.0) (norm_of r.0) (l.1 both.0) (r.1 both.1)
  level (ITerm-F.Mul l r) h =
      let both = and_parts (term_passes test l.0) (term_passes test r.0) h in
      passes-body_product test (norm_of l.0) (norm_of r.0) (l.1 both.0) (r.1 both.1)
  level (ITerm-F.Neg t) h = passes-scaled_by test (negsuc 0) (norm_of t.0) (t.1 h)
  level (ITerm-F.Div l r) h =
      let both = and_parts (term_passes test l.0) (term_passes test r.0) h in
      passes-quotient_of test (norm_of l.0) (norm_of r.0) (l.1 both.0) (r.1 both.1)
  level (ITerm-F.Mod l r) h =
      let both = and_parts (term_passes test l.0) (term_passes test r.0) h in
      passes-remainder_of test (norm_of l.0) (norm_of r.0) (l.1 both.0) (r.1 both.1)

  step : (x : ITerm-F ITerm) (y : ITerm-F Such) → bare y ≡ x → Passes (roll-ITerm x)
  step x y is = subst (λ z. Passes (roll-ITerm z)) is (λ h.
      ap (λ (f : Formed Body). passes test f.form)
      (fold-roll-ITerm (Formed Body) norm_level (bare y))
      ∙ level y (sym (fold-roll-ITerm Bool (term_passes_level test) (bare y)) ∙ h))

  -- where all variables of a term pass a test, those of its normal form do
  pub norm_passes : (t : ITerm) → term_passes test t ≡ true → passes test (norm_of t) ≡ true
  norm_passes = ind-ITerm Passes step
