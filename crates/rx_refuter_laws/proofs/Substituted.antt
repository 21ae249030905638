-- An instance of a polynomial by polynomials, within the limits, is a polynomial.
use Rattle.std.proofs.Common.{◌≡◌, ◌∙◌, ap, subst, sym, ℕ, Bool, true, ◌&&◌, List, [], ◌∷◌, map, ℤ}
use Rattle.std.proofs.lemmas.Bool.{and_parts}
use Rattle.std.specs.List.{list_all}
use Rattle.rx_plain.specs.Formed.{Formed}
use Rattle.rx_poly.specs.Constants.{number}
use Rattle.rx_poly.specs.Division.{quotient_of, remainder_of}
use Rattle.rx_poly.specs.Limits.{body_sum, fits_i128, is_within, of_terms}
use Rattle.rx_poly.specs.Normal.{is_normal, is_normal_atom, is_normal_mono, is_open, is_poly, is_sorted}
use Rattle.rx_poly.specs.Order.{atom_cmp, mono_cmp}
use Rattle.rx_poly.specs.Products.{body_product, mul_within}
use Rattle.rx_poly.specs.Substitution.{plus_all, replaced, subst_atom, subst_body, subst_mono, times_all}
use Rattle.rx_poly.specs.Terms.{is_sparse_sorted}
use Rattle.rx_poly.proofs.Levels.{div_is_normal, is_normal_is, is_normal_mono_is, mod_is_normal}
use Rattle.rx_poly.proofs.PolyLaws.{zero_poly}
use Rattle.rx_poly.proofs.Substituting.{in_Div, in_Mod, in_Var, in_body_is, in_mono_is, term_in, well}
use Rattle.rx_poly.specs.declared.body.Atom.{Atom, Atom-F, map-Atom, roll-Atom}
use Rattle.rx_poly.specs.declared.body.Atom.TheVariants.{rolls-Div, rolls-Mod, rolls-Var}
use Rattle.rx_poly.specs.declared.body.Mono.{Mono, Mono-F, map-Mono, out-Mono, out-roll-Mono, roll-Mono}
use Rattle.rx_poly.specs.declared.body.Body.{Body, Body-F, ind-Body, map-Body, out-Body, out-roll-Body, roll-Body}
use Rattle.rx_refuter_laws.proofs.Polynomials.{fitting_number_poly, product_poly, quotient_poly, remainder_poly, sum_poly}

module _ (ws : List (ℕ × Body)) (good : (n : ℕ) → is_poly (replaced ws n) ≡ true) where
  -- what is formed within the limits is a polynomial
  abbrev Makes : Formed Body → Type 0
  Makes f = f.within ≡ true → is_poly f.form ≡ true

  abbrev PolyAtom : Atom → Type 0
  PolyAtom x = is_normal_atom x ≡ true → Makes (subst_atom ws x)

  abbrev PolyBody : Body → Type 0
  PolyBody p = is_normal p ≡ true → Makes (subst_body ws p)

  abbrev PolyMono : Mono → Type 0
  PolyMono m =
      is_normal_mono m ≡ true → (k : ℤ) → fits_i128 k ≡ true → Makes (subst_mono ws m k)

  abbrev PartAtom : Type 0
  PartAtom = (x : Atom) × PolyAtom x

  abbrev PartBody : Type 0
  PartBody = (p : Body) × PolyBody p

  abbrev PartMono : Type 0
  PartMono = (m : Mono) × PolyMono m

  -- the level without its proofs
  abbrev bare_atom : Atom-F PartAtom PartBody PartMono → Atom-F Atom Body Mono
  bare_atom = map-Atom PartAtom PartBody PartMono Atom Body Mono (λ p. p.0) (λ p. p.0) (λ p. p.0)

  abbrev bare_body : Body-F PartAtom PartBody PartMono → Body-F Atom Body Mono
  bare_body = map-Body PartAtom PartBody PartMono Atom Body Mono (λ p. p.0) (λ p. p.0) (λ p. p.0)

  abbrev bare_mono : Mono-F PartAtom PartBody PartMono → Mono-F Atom Body Mono
  bare_mono = map-Mono PartAtom PartBody PartMono Atom Body Mono (λ p. p.0) (λ p. p.0) (λ p. p.0)

  abbrev atom_of : PartAtom → Atom
  atom_of p = p.0

  -- ---- atoms

  -- both parts of a division are polynomials, and the result keeps the limits
  both_made : (p q : PartBody) (result : Body → Body → Body) →
      ((is_normal p.0 && is_normal q.0) && is_open p.0 q.0) ≡ true →
      ((subst_body ws p.0).within && ((subst_body ws q.0).within &&
      is_within (result (subst_body ws p.0).form (subst_body ws q.0).form))) ≡ true →
      (is_poly (subst_body ws p.0).form ≡ true) × (is_poly (subst_body ws q.0).form ≡ true) ×
      (is_within (result (subst_body ws p.0).form (subst_body ws q.0).form) ≡ true)
  both_made p q result n w =
      let normal = and_parts (is_normal p.0) (is_normal q.0)
      (and_parts (is_normal p.0 && is_normal q.0) (is_open p.0 q.0) n).0 in
      let a = and_parts (subst_body ws p.0).within ((subst_body ws q.0).within &&
      is_within (result (subst_body ws p.0).form (subst_body ws q.0).form)) w in
      let b = and_parts (subst_body ws q.0).within
      (is_within (result (subst_body ws p.0).form (subst_body ws q.0).form)) a.1 in
      (p.1 normal.0 a.0, q.1 normal.1 b.0, b.1)

  quotient_made : (p q : PartBody) →
      ((is_normal p.0 && is_normal q.0) && is_open p.0 q.0) ≡ true →
      Makes (record {
        form = quotient_of (subst_body ws p.0).form (subst_body ws q.0).form;
        within = (subst_body ws p.0).within && ((subst_body ws q.0).within &&
            is_within (quotient_of (subst_body ws p.0).form (subst_body ws q.0).form));
      })
  quotient_made p q n w =
      let b = both_made p q quotient_of n w in
      quotient_poly (subst_body ws p.0).form (subst_body ws q.0).form b.0 b.1 b.2

  remainder_made : (p q : PartBody) →
      ((is_normal p.0 && is_normal q.0) && is_open p.0 q.0) ≡ true →
      Makes (record {
        form = remainder_of (subst_body ws p.0).form (subst_body ws q.0).form;
        within = (subst_body ws p.0).within && ((subst_body ws q.0).within &&
            is_within (remainder_of (subst_body ws p.0).form (subst_body ws q.0).form));
      })
  remainder_made p q n w =
      let b = both_made p q remainder_of n w in
      remainder_poly (subst_body ws p.0).form (subst_body ws q.0).form b.0 b.1 b.2

  atom_level : (y : Atom-F PartAtom PartBody PartMono) → PolyAtom (roll-Atom (bare_atom y))
  atom_level (Atom-F.Var n) = subst PolyAtom (sym (rolls-Var n))
      (λ _. subst Makes (sym (in_Var ws n)) (λ _. good n))
  atom_level (Atom-F.Div p q) = subst PolyAtom (sym (rolls-Div p.0 q.0))
      (λ h. subst Makes (sym (in_Div ws p.0 q.0))
      (quotient_made p q (sym (div_is_normal p.0 q.0) ∙ h)))
  atom_level (Atom-F.Mod p q) = subst PolyAtom (sym (rolls-Mod p.0 q.0))
      (λ h. subst Makes (sym (in_Mod ws p.0 q.0))
      (remainder_made p q (sym (mod_is_normal p.0 q.0) ∙ h)))

  atom_step : (x : Atom-F Atom Body Mono) (y : Atom-F PartAtom PartBody PartMono) → bare_atom y ≡
      x → PolyAtom (roll-Atom x)
  atom_step x y is = subst (λ z. PolyAtom (roll-Atom z)) is (atom_level y)

  -- ---- monomials

  -- the product of what is formed so far and what comes next
  abbrev times_next : Formed Body → Formed Body → Formed Body
  times_next done x = record {
    form = body_product done.form x.form;
    within = done.within && (x.within && mul_within done.form x.form);
  }

  next_product : (done x : Formed Body) → Makes done → Makes x → Makes (times_next done x)
  next_product done x d e w =
      let a = and_parts done.within (x.within && mul_within done.form x.form) w in
      let b = and_parts x.within (mul_within done.form x.form) a.1 in
      product_poly done.form x.form (d a.0) (e b.0) b.1

  times_makes : (ps : List PartAtom) (done : Formed Body) →
      list_all is_normal_atom (map atom_of ps) ≡ true → Makes done →
      Makes (times_all done (map (subst_atom ws) (map atom_of ps)))
  times_makes [] done h d = d
  times_makes (p ∷ ps) done h d =
      let g = and_parts (is_normal_atom p.0) (list_all is_normal_atom (map atom_of ps)) h in
      times_makes ps (times_next done (subst_atom ws p.0)) g.1
      (next_product done (subst_atom ws p.0) d (p.1 g.0))

  mono_step : (x : Mono-F Atom Body Mono) (y : Mono-F PartAtom PartBody PartMono) → bare_mono y ≡
      x → PolyMono (roll-Mono x)
  mono_step x y is = subst (λ z. PolyMono (roll-Mono z)) is (λ h k f.
      let m = roll-Mono (bare_mono y) in
      let atoms : (out-Mono m).atoms ≡ (bare_mono y).atoms =
      ap (λ (z : Mono-F Atom Body Mono). z.atoms) (out-roll-Mono (bare_mono y)) in
      let normal = (and_parts (list_all is_normal_atom (out-Mono m).atoms)
      (is_sorted atom_cmp (out-Mono m).atoms) (sym (is_normal_mono_is m) ∙ h)).0 in
      subst Makes (sym (in_mono_is ws m k ∙
      ap (λ xs. times_all (well (number k)) (map (subst_atom ws) xs)) atoms))
      (times_makes y.atoms (well (number k)) (ap (list_all is_normal_atom) (sym atoms) ∙ normal)
      (λ _. fitting_number_poly k f)))

  -- ---- sums

  abbrev bare_term : PartMono × ℤ → Mono × ℤ
  bare_term t = ((t.0).0, t.1)

  abbrev normal_term : Mono × ℤ → Bool
  normal_term t = is_normal_mono t.0 && fits_i128 t.1

  abbrev plus_next : Formed Body → Formed Body → Formed Body
  plus_next done x = record {
    form = body_sum done.form x.form;
    within = done.within && (x.within && is_within (body_sum done.form x.form));
  }

  next_sum : (done x : Formed Body) → Makes done → Makes x → Makes (plus_next done x)
  next_sum done x d e w =
      let a = and_parts done.within (x.within && is_within (body_sum done.form x.form)) w in
      let b = and_parts x.within (is_within (body_sum done.form x.form)) a.1 in
      sum_poly done.form x.form (d a.0) (e b.0) b.1

  plus_makes : (ps : List (PartMono × ℤ)) (done : Formed Body) →
      list_all normal_term (map bare_term ps) ≡ true → Makes done →
      Makes (plus_all done (map (term_in ws) (map bare_term ps)))
  plus_makes [] done h d = d
  plus_makes (p ∷ ps) done h d =
      let g = and_parts (normal_term (bare_term p)) (list_all normal_term (map bare_term ps)) h in
      let k = and_parts (is_normal_mono (p.0).0) (fits_i128 p.1) g.0 in
      plus_makes ps (plus_next done (subst_mono ws (p.0).0 p.1)) g.1
      (next_sum done (subst_mono ws (p.0).0 p.1) d ((p.0).1 k.0 p.1 k.1))

  body_step : (x : Body-F Atom Body Mono) (y : Body-F PartAtom PartBody PartMono) → bare_body y ≡
      x → PolyBody (roll-Body x)
  body_step x y is = subst (λ z. PolyBody (roll-Body z)) is (λ h.
      let b = roll-Body (bare_body y) in
      let terms : (out-Body b).terms ≡ (bare_body y).terms =
      ap (λ (z : Body-F Atom Body Mono). z.terms) (out-roll-Body (bare_body y)) in
      let normal = (and_parts (list_all normal_term (out-Body b).terms)
      (is_sparse_sorted mono_cmp (out-Body b).terms) (sym (is_normal_is b) ∙ h)).0 in
      subst Makes (sym (in_body_is ws b ∙
      ap (λ ts. plus_all (well (of_terms [])) (map (term_in ws) ts)) terms))
      (plus_makes y.terms (well (of_terms [])) (ap (list_all normal_term) (sym terms) ∙ normal)
      (λ _. zero_poly)))

  -- where what is in place of each variable is a polynomial, so is the instance
  pub instance_poly : (p : Body) → is_normal p ≡ true → (subst_body ws p).within ≡ true →
      is_poly (subst_body ws p).form ≡ true
  instance_poly = ind-Body PolyAtom PolyBody PolyMono atom_step body_step mono_step
