-- What a term means, and whether rows hold, is decided by the variables that occur in them.
use Rattle.std.proofs.Common.{◌≡◌, ◌∙◌, ap, sym, subst, refl, true, ℕ, zero, suc, ◌<◌, List, [], ◌∷◌, ℤ, pos, ◌≤ℤ◌}
use Rattle.std.proofs.lemmas.Bool.{and_parts}
use Rattle.std.proofs.lemmas.List.Elements.{All-cons, All-head, All-nil, All-tail}
use Rattle.rx_poly.specs.declared.body.Body.{Body}
use Rattle.rx_poly.specs.Variables.{uses_below}
use Rattle.rx_poly_laws.proofs.Locality.{same_value_below}
use Rattle.rx_rewriting.specs.Terms as stack
use Rattle.rx_row.specs.Holds.{AllHold, RowHolds}
use Rattle.rx_row.specs.Parts.{poly_of}
use Rattle.rx_row.specs.declared.row.Row.{Row}
use Rattle.rx_row.specs.declared.row.Row.TheVariants.{Ge, Eq, Ne}
use Rattle.rx_row.specs.Variables.{rows_use_below}
use Rattle.rx_term.specs.Meaning.{values, ground_at, outer_frames, outer_level}
use Rattle.rx_term.specs.Variables.{polys_use_below, term_uses_below}
use Rattle.rx_term.specs.declared.term.Sym.{Sym}
use Rattle.rx_term.specs.declared.term.Term.{Term, Term-F}
use Rattle.rx_term.specs.declared.term.Term.TheVariants.{Frame, outs-Return, outs-Fail, outs-Call}
use Rattle.rx_term.proofs.Equations.{induct, Form, AReturn, AFail, ACall, AFrame, form, outer-Frame, below-Return, below-Call, below-Frame, ground-Return, ground-Fail, ground-Call, ground-Frame}

module _ (a b : ℕ → ℤ) (n : ℕ) (agree : (v : ℕ) → v < n → a v ≡ b v) where
  -- a list of polynomials has the same values
  pub same_values : (ps : List Body) → polys_use_below n ps ≡ true → values a ps ≡ values b ps
  same_values [] h = refl
  same_values (p ∷ ps) h =
      let both = and_parts (uses_below n p) (polys_use_below n ps) h in
      let first = same_value_below a b n p agree both.0 in
      let rest = same_values ps both.1 in
      (λ i. first i ∷ rest i)

  abbrev Agrees : Term → Type 0
  Agrees t = term_uses_below n t ≡ true → ground_at a t ≡ ground_at b t

  frame_agrees : (f : Sym) (ps : List Body) (t : Term) → Agrees t → Agrees (Frame f ps t)
  frame_agrees f ps t inner h =
      let both = and_parts (polys_use_below n ps) (term_uses_below n t)
      (sym (below-Frame n f ps t) ∙ h) in
      ground-Frame a f ps t ∙ ap (λ zs. stack.Frame f.0 zs (ground_at a t)) (same_values ps both.0)
      ∙ ap (stack.Frame f.0 (values b ps)) (inner both.1) ∙ sym (ground-Frame b f ps t)

  -- two assignments that agree on the variables of a term give it one ground term
  pub same_ground_below : (t : Term) → Agrees t
  same_ground_below = induct Agrees
      (λ p h. ground-Return a p ∙ ap stack.Return
      (same_value_below a b n p agree (sym (below-Return n p) ∙ h)) ∙ sym (ground-Return b p))
      (λ c h. ground-Fail a c ∙ sym (ground-Fail b c))
      (λ f ps h. ground-Call a f ps ∙ ap (stack.Call f.0)
      (same_values ps (sym (below-Call n f ps) ∙ h)) ∙ sym (ground-Call b f ps))
      frame_agrees

  outer_of : (k : ℕ) → ((t : Term) → term_uses_below n t ≡ true → outer_frames a k t ≡
      outer_frames b k t)
      → (t : Term) → Form t → term_uses_below n t ≡ true → outer_frames a (suc k) t ≡
      outer_frames b (suc k) t
  outer_of k rest _ (AReturn p) below =
      ap (λ (x : Term-F Term). outer_level a x (outer_frames a k)) (outs-Return p) ∙
      sym (ap (λ (x : Term-F Term). outer_level b x (outer_frames b k)) (outs-Return p))
  outer_of k rest _ (AFail c) below =
      ap (λ (x : Term-F Term). outer_level a x (outer_frames a k)) (outs-Fail c) ∙
      sym (ap (λ (x : Term-F Term). outer_level b x (outer_frames b k)) (outs-Fail c))
  outer_of k rest _ (ACall f ps) below =
      ap (λ (x : Term-F Term). outer_level a x (outer_frames a k)) (outs-Call f ps) ∙
      sym (ap (λ (x : Term-F Term). outer_level b x (outer_frames b k)) (outs-Call f ps))
  outer_of k rest _ (AFrame f ps t) below =
      let both = and_parts (polys_use_below n ps) (term_uses_below n t)
      (sym (below-Frame n f ps t) ∙ below) in
      outer-Frame a k f ps t ∙ (ap (λ vs. record { symbol = f.0; arguments = vs } ∷
      outer_frames a k t) (same_values ps both.0)
      ∙ ap (λ fs. record { symbol = f.0; arguments = values b ps } ∷ fs) (rest t both.1)) ∙
      sym (outer-Frame b k f ps t)

  -- so are its outer frames the same
  pub same_outer : (k : ℕ) (t : Term) → term_uses_below n t ≡ true → outer_frames a k t ≡
      outer_frames b k t
  same_outer zero t below = refl
  same_outer (suc k) t below = outer_of k (same_outer k) t (form t) below

  row_holds_too : (row : Row) → uses_below n (poly_of row) ≡ true → RowHolds a row → RowHolds b row
  row_holds_too (Ge p) h holds = subst (λ z. pos 0 ≤ℤ z) (same_value_below a b n p agree h) holds
  row_holds_too (Eq p) h holds = subst (λ z. z ≡ pos 0) (same_value_below a b n p agree h) holds
  row_holds_too (Ne p) h holds = subst (λ z. z ≡ pos 0 → ⊥) (same_value_below a b n p agree h) holds

  -- and rows hold at both or at neither
  pub hold_too : (rows : List Row) → rows_use_below n rows ≡ true → AllHold a rows → AllHold b rows
  hold_too [] h holds = All-nil (RowHolds b)
  hold_too (r ∷ rs) h holds =
      let both = and_parts (uses_below n (poly_of r)) (rows_use_below n rs) h in
      All-cons (RowHolds b) r rs (row_holds_too r both.0 (All-head (RowHolds a) r rs holds))
      (hold_too rs both.1 (All-tail (RowHolds a) r rs holds))
