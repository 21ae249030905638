-- A variable alone, replaced, is what is substituted for it, and nothing on the way passes the
-- limits.
use Rattle.std.proofs.Common.{◌≡◌, ◌∙◌, ap, ℕ, true, false, ◌&&◌, refl, sym, List, [], ◌∷◌, map, ℤ, pos}
use Rattle.std.proofs.lemmas.Bool.{and_left}
use Rattle.rx_poly.specs.Constants.{number, variable}
use Rattle.rx_poly.specs.Limits.{of_terms, of_atoms, body_sum, is_within}
use Rattle.rx_poly.specs.Normal.{is_poly}
use Rattle.rx_poly.specs.Products.{body_product, mul_within}
use Rattle.rx_poly.specs.Substitution.{replaced, times_all, plus_all, subst_atom, subst_mono, subst_body}
use Rattle.rx_poly.proofs.Constants.{number-nonzero}
use Rattle.rx_poly.proofs.Levels.{terms-of_terms, atoms-of_atoms}
use Rattle.rx_poly.proofs.Neutral.{one, one_product, zero_sum}
use Rattle.rx_poly.proofs.Substituting.{well, term_in, times_false, in_Var, in_mono_is, in_body_is}
use Rattle.rx_plain.specs.Formed.{Formed}
use Rattle.rx_poly.specs.declared.body.Atom.{Atom}
use Rattle.rx_poly.specs.declared.body.Atom.TheVariants.{Var}
use Rattle.rx_poly.specs.declared.body.Mono.{Mono, out-Mono}
use Rattle.rx_poly.specs.declared.body.Body.{Body, out-Body}

-- the factor 1 of a monomial, times a polynomial
pub one_factor : (q : Body) → is_poly q ≡ true →
    record {
      form = body_product (number (pos 1)) q;
      within = true && (true && mul_within (number (pos 1)) q);
    } ≡ well q
one_factor q h =
    let whole : number (pos 1) ≡ of_terms one = number-nonzero (pos 1) refl in
    let made = one_product (number (pos 1)) q
    (ap (λ b. (out-Body b).terms) whole ∙ terms-of_terms one) h in
    λ i. record { form = sym made.0 i; within = made.1 i }

-- the empty sum plus a polynomial
first_sum : (q : Body) → is_poly q ≡ true →
    record {
      form = body_sum (of_terms []) q;
      within = true && (true && is_within (body_sum (of_terms []) q));
    } ≡ well q
first_sum q h =
    let made = zero_sum (of_terms []) q (terms-of_terms []) h in
    λ i. record { form = sym made.0 i; within = made.1 i }

module _ (ws : List (ℕ × Body)) (n : ℕ) (h : is_poly (replaced ws n) ≡ true) where
  -- the monomial that is one variable
  alone_mono : subst_mono ws (of_atoms (Var n ∷ [])) (pos 1) ≡ well (replaced ws n)
  alone_mono =
      in_mono_is ws (of_atoms (Var n ∷ [])) (pos 1)
      ∙ (λ i. times_all (well (number (pos 1)))
      (map (subst_atom ws) (atoms-of_atoms (Var n ∷ []) i)))
      ∙ (λ i. times_all (well (number (pos 1))) (in_Var ws n i ∷ []))
      ∙ one_factor (replaced ws n) h

  pub alone : subst_body ws (variable n) ≡ well (replaced ws n)
  alone =
      let terms = (of_atoms (Var n ∷ []), pos 1) ∷ [] in
      in_body_is ws (variable n)
      ∙ (λ i. plus_all (well (of_terms [])) (map (term_in ws) (terms-of_terms terms i)))
      ∙ (λ i. record {
        form = body_sum (of_terms []) (alone_mono i).form;
        within =
            true && ((alone_mono i).within &&
            is_within (body_sum (of_terms []) (alone_mono i).form));
      })
      ∙ first_sum (replaced ws n) h

-- the same of a polynomial that is known to be the variable, and of what is known to replace it
pub replaced_alone : (ws : List (ℕ × Body)) (n : ℕ) (p : Body) {q : Body} → p ≡ variable n → q ≡
    replaced ws n → is_poly q ≡ true → subst_body ws p ≡ well q
replaced_alone ws n p e r h =
    ap (subst_body ws) e ∙ alone ws n (ap is_poly (sym r) ∙ h) ∙ ap well (sym r)

-- what is formed of the first atom of a monomial with the coefficient 1, times the others
module _ (ws : List (ℕ × Body)) (x : Atom) (xs : List Atom) where
  abbrev first : Formed Body
  first = subst_atom ws x

  pub first_fails : first.within ≡ false →
      (times_all (well (number (pos 1))) (map (subst_atom ws) (x ∷ xs))).within ≡ false
  first_fails f =
      times_false (map (subst_atom ws) xs) (record {
        form = body_product (number (pos 1)) first.form;
        within = true && (first.within && mul_within (number (pos 1)) first.form);
      })
      (and_left first.within (mul_within (number (pos 1)) first.form) f)

  pub first_made : {q : Body} → q ≡ first.form → first.within ≡ true → is_poly q ≡ true →
      times_all (well q) (map (subst_atom ws) xs) ≡
      times_all (well (number (pos 1))) (map (subst_atom ws) (x ∷ xs))
  first_made {q} e f h =
      ap (λ (d : Formed Body). times_all d (map (subst_atom ws) xs)) (sym (one_factor q h) ∙
      (λ i. record {
        form = body_product (number (pos 1)) (e i);
        within = true && (sym f i && mul_within (number (pos 1)) (e i));
      }))

  pub mono_first : (m : Mono) (k : ℤ) → (out-Mono m).atoms ≡ x ∷ xs → k ≡ pos 1 →
      subst_mono ws m k ≡ times_all (well (number (pos 1))) (map (subst_atom ws) (x ∷ xs))
  mono_first m k is one =
      in_mono_is ws m k ∙
      (λ i. times_all (well (number (one i))) (map (subst_atom ws) (is i)))
