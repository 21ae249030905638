-- The ground terms of terms: under substitution, and where a part is replaced.
use Rattle.std.proofs.Common.{◌≡◌, ◌∙◌, ap, sym, refl, ℕ, List, [], ◌∷◌, ℤ}
use Rattle.rx_poly.specs.Substitution.{subst_body, updated_assignment}
use Rattle.rx_poly.specs.Value.{value}
use Rattle.rx_poly.specs.declared.body.Body.{Body}
use Rattle.rx_poly.proofs.SubstitutedValue.{value-subst_body}
use Rattle.rx_rewriting.specs.Terms as stack
use Rattle.rx_rewriting.specs.Terms.{Ground}
use Rattle.rx_term.specs.declared.term.Sym.{Sym}
use Rattle.rx_term.specs.declared.term.Term.{Term}
use Rattle.rx_term.specs.declared.term.Term.TheVariants.{Return, Fail, Call, Frame}
use Rattle.rx_term.specs.Meaning.{values, ground_at}
use Rattle.rx_term.specs.Substitution.{subst_polys, subst_term}
use Rattle.rx_term.proofs.Equations.{induct, ground-Return, ground-Fail, ground-Call, ground-Frame, subst_term-Return, subst_term-Fail, subst_term-Call, subst_term-Frame}

-- substitution and assignment commute: in a list of polynomials
pub values-subst_polys : (a : ℕ → ℤ) (ws : List (ℕ × Body)) (ps : List Body) →
    values a (subst_polys ws ps) ≡ values (updated_assignment a ws) ps
values-subst_polys a ws [] = refl
values-subst_polys a ws (p ∷ ps) =
    ap (λ z. z ∷ values a (subst_polys ws ps)) (value-subst_body a ws p) ∙
    ap (λ zs. value (updated_assignment a ws) p ∷ zs) (values-subst_polys a ws ps)

module _ (a : ℕ → ℤ) (ws : List (ℕ × Body)) where
  abbrev Commutes : Term → Type 0
  Commutes t = ground_at a (subst_term ws t) ≡ ground_at (updated_assignment a ws) t

  at_return : (p : Body) → Commutes (Return p)
  at_return p =
      ap (ground_at a) (subst_term-Return ws p) ∙ ground-Return a (subst_body ws p).form ∙
      ap stack.Return (value-subst_body a ws p) ∙ sym (ground-Return (updated_assignment a ws) p)

  at_fail : (c : ℕ) → Commutes (Fail c)
  at_fail c =
      ap (ground_at a) (subst_term-Fail ws c) ∙ ground-Fail a c ∙
      sym (ground-Fail (updated_assignment a ws) c)

  at_call : (f : Sym) (ps : List Body) → Commutes (Call f ps)
  at_call f ps =
      ap (ground_at a) (subst_term-Call ws f ps) ∙ ground-Call a f (subst_polys ws ps) ∙
      ap (stack.Call f.0) (values-subst_polys a ws ps) ∙
      sym (ground-Call (updated_assignment a ws) f ps)

  at_frame : (f : Sym) (ps : List Body) (t : Term) → Commutes t → Commutes (Frame f ps t)
  at_frame f ps t inner =
      ap (ground_at a) (subst_term-Frame ws f ps t) ∙
      ground-Frame a f (subst_polys ws ps) (subst_term ws t)
      ∙ ap (λ zs. stack.Frame f.0 zs (ground_at a (subst_term ws t))) (values-subst_polys a ws ps)
      ∙ ap (stack.Frame f.0 (values (updated_assignment a ws) ps)) inner ∙
      sym (ground-Frame (updated_assignment a ws) f ps t)

  -- and in a term
  pub ground_in_term : (t : Term) → ground_at a (subst_term ws t) ≡
      ground_at (updated_assignment a ws) t
  ground_in_term = induct Commutes at_return at_fail at_call at_frame
