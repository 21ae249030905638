-- Polynomials with others in place of their variables: which stay what they are.
use Rattle.std.proofs.Common.{◌≡◌, ◌∙◌, ap, cond, refl, ℕ, ◌<◌, ◌≤◌, Bool, true, List, [], ◌∷◌, arith}
use Rattle.std.specs.Prelude.{nat_le, nat_lt}
use Rattle.std.specs.List.{list_all}
use Rattle.std.proofs.lemmas.Bool.{and_parts, leb-true, ltb-true, ne_eqb}
use Rattle.std.proofs.lemmas.List.Elements.{All-weaker}
use Rattle.std.proofs.lemmas.List.Sums.{AllPass-from_list_all}
use Rattle.rx_plain.specs.Formed.{pure}
use Rattle.rx_poly.proofs.Unchanged.{unchanged}
use Rattle.rx_poly.specs.Constants.{variable}
use Rattle.rx_poly.specs.Limits.{body_difference, is_within}
use Rattle.rx_poly.specs.Normal.{is_poly}
use Rattle.rx_poly.specs.Substitution.{replaced, subst_body}
use Rattle.rx_poly.specs.Variables.{uses_below, variables}
use Rattle.rx_poly.specs.declared.body.Body.{Body}
use Rattle.rx_poly_laws.proofs.SumCoefficients.{minus_itself, zero_within}

-- the polynomials are normal forms within the limits
abbrev pub are_polys : List Body → Bool
are_polys ps = list_all is_poly ps

-- the variables that are replaced have this number or one above
abbrev pub replaces_from : ℕ → List (ℕ × Body) → Bool
replaces_from m ws = list_all (λ (w : ℕ × Body). nat_le m w.0) ws

-- those below it stay what they are
pub stays_below : (ws : List (ℕ × Body)) (m v : ℕ) → replaces_from m ws ≡ true → v < m →
    replaced ws v ≡ variable v
stays_below [] m v h l = refl
stays_below (w ∷ ws) m v h l =
    let both = and_parts (nat_le m w.0) (replaces_from m ws) h in
    let above : m ≤ w.0 = leb-true m w.0 both.0 in
    ap (λ b. cond b w.1 (replaced ws v)) (ne_eqb w.0 v (λ e. omega (arith, e, above, l)))
    ∙ stays_below ws m v both.1 l

-- so does a polynomial all of whose variables are below
pub stays_itself : (ws : List (ℕ × Body)) (m : ℕ) → replaces_from m ws ≡ true → (p : Body) →
    is_poly p ≡ true → uses_below m p ≡ true → subst_body ws p ≡ pure p
stays_itself ws m above p poly below =
    unchanged ws p poly
    (All-weaker (λ v. nat_lt v m ≡ true) (λ v. replaced ws v ≡ variable v)
    (λ v h. stays_below ws m v above (ltb-true v m h)) (variables p)
    (AllPass-from_list_all (λ v. nat_lt v m) (variables p) below))

-- a polynomial minus itself is 0, and keeps the limits
pub none_left : (p : Body) → is_poly p ≡ true → is_within (body_difference p p) ≡ true
none_left p h = ap is_within (minus_itself p h) ∙ zero_within
