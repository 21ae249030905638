-- The values of polynomials with replaced variables: the value of the polynomial where each
-- variable has the value of what is in its place.
use Rattle.std.proofs.Common.{◌≡◌, ◌∙◌, ap, subst, ℕ, sym, List, [], ◌∷◌, map, ◌&&◌, ℤ, ◌+ℤ◌, ◌*ℤ◌}
use lib.IntN.{+ℤ_assoc}
use Rattle.rx_plain.proofs.Integers.{mul-one-int, mul-assoc-int, zero-add-int, add-zero-int}
use Rattle.rx_poly.specs.Constants.{number}
use Rattle.rx_poly.specs.Limits.{of_terms, body_sum, is_within}
use Rattle.rx_plain.specs.Formed.{Formed}
use Rattle.rx_poly.specs.Products.{body_product, mul_within}
use Rattle.rx_poly.specs.Substitution.{updated_assignment, times_all, plus_all, subst_atom, subst_mono, subst_body}
use Rattle.rx_poly.specs.Value.{value, atom_value, mono_value, sum_terms, product_of, quotient, remainder}
use Rattle.rx_poly.proofs.Constants.{value-number}
use Rattle.rx_poly.proofs.DivisionLaws.{value-quotient_of, value-remainder_of, value-Div, value-Mod}
use Rattle.rx_poly.proofs.Levels.{value_is, mono_value_is, var_value}
use Rattle.rx_poly.proofs.PolyLaws.{value-of_terms, value-body_sum}
use Rattle.rx_poly.proofs.ProductLaws.{value-body_product}
use Rattle.rx_poly.proofs.Substituting.{well, term_in, in_Var, in_Div, in_Mod, in_mono_is, in_body_is}
use Rattle.rx_poly.specs.declared.body.Atom.{Atom, Atom-F, roll-Atom, map-Atom}
use Rattle.rx_poly.specs.declared.body.Atom.TheVariants.{rolls-Var, rolls-Div, rolls-Mod}
use Rattle.rx_poly.specs.declared.body.Mono.{Mono, Mono-F, out-Mono, roll-Mono, out-roll-Mono, map-Mono}
use Rattle.rx_poly.specs.declared.body.Body.{Body, Body-F, out-Body, roll-Body, out-roll-Body, map-Body, ind-Body}

module _ (a : ℕ → ℤ) (ws : List (ℕ × Body)) where
  abbrev WorthAtom : Atom → Type 0
  WorthAtom x = value a (subst_atom ws x).form ≡ atom_value (updated_assignment a ws) x

  abbrev WorthBody : Body → Type 0
  WorthBody b = value a (subst_body ws b).form ≡ value (updated_assignment a ws) b

  abbrev WorthMono : Mono → Type 0
  WorthMono m =
      (k : ℤ) → value a (subst_mono ws m k).form ≡ k *ℤ mono_value (updated_assignment a ws) m

  abbrev PartAtom : Type 0
  PartAtom = (x : Atom) × WorthAtom x

  abbrev PartBody : Type 0
  PartBody = (p : Body) × WorthBody p

  abbrev PartMono : Type 0
  PartMono = (m : Mono) × WorthMono m

  -- the level without its proofs
  abbrev bare_atom : Atom-F PartAtom PartBody PartMono → Atom-F Atom Body Mono
  bare_atom = map-Atom PartAtom PartBody PartMono Atom Body Mono (λ p. p.0) (λ p. p.0) (λ p. p.0)

  abbrev bare_body : Body-F PartAtom PartBody PartMono → Body-F Atom Body Mono
  bare_body = map-Body PartAtom PartBody PartMono Atom Body Mono (λ p. p.0) (λ p. p.0) (λ p. p.0)

  abbrev bare_mono : Mono-F PartAtom PartBody PartMono → Mono-F Atom Body Mono
  bare_mono = map-Mono PartAtom PartBody PartMono Atom Body Mono (λ p. p.0) (λ p. p.0) (λ p. p.0)

  abbrev form_value : Formed Body → ℤ
  form_value w = value a w.form

  atom_level : (y : Atom-F PartAtom PartBody PartMono) → WorthAtom (roll-Atom (bare_atom y))
  atom_level (Atom-F.Var n) =
      subst WorthAtom (sym (rolls-Var n)) (ap form_value (in_Var ws n) ∙
      sym (var_value (updated_assignment a ws) n))
  atom_level (Atom-F.Div p q) = subst WorthAtom (sym (rolls-Div p.0 q.0))
      (ap form_value (in_Div ws p.0 q.0) ∙ value-quotient_of a (subst_body ws p.0).form
      (subst_body ws q.0).form ∙ (λ i. quotient (p.1 i) (q.1 i)) ∙
      sym (value-Div (updated_assignment a ws) p.0 q.0))
  atom_level (Atom-F.Mod p q) = subst WorthAtom (sym (rolls-Mod p.0 q.0))
      (ap form_value (in_Mod ws p.0 q.0) ∙ value-remainder_of a (subst_body ws p.0).form
      (subst_body ws q.0).form ∙ (λ i. remainder (p.1 i) (q.1 i)) ∙
      sym (value-Mod (updated_assignment a ws) p.0 q.0))

  atom_step : (x : Atom-F Atom Body Mono) (y : Atom-F PartAtom PartBody PartMono) → bare_atom y ≡
      x → WorthAtom (roll-Atom x)
  atom_step x y is = subst (λ z. WorthAtom (roll-Atom z)) is (atom_level y)

  times_worth : (ps : List PartAtom) (done : Formed Body) →
      form_value (times_all done (map (subst_atom ws) (map (λ (p : PartAtom). p.0) ps))) ≡
      form_value done *ℤ product_of (atom_value (updated_assignment a ws))
      (map (λ (p : PartAtom). p.0) ps)
  times_worth [] done = sym (mul-one-int (form_value done))
  times_worth (p ∷ ps) done =
      let x = subst_atom ws p.0 in
      let rest = product_of (atom_value (updated_assignment a ws)) (map (λ (p : PartAtom). p.0) ps)
      in
      times_worth ps (record {
        form = body_product done.form x.form;
        within = done.within &&
            (x.within && mul_within done.form x.form);
      })
      ∙ ap (λ n. n *ℤ rest) (value-body_product a done.form x.form ∙
      ap (λ n. form_value done *ℤ n) p.1)
      ∙ mul-assoc-int (form_value done) (atom_value (updated_assignment a ws) p.0) rest

  mono_step : (x : Mono-F Atom Body Mono) (y : Mono-F PartAtom PartBody PartMono) → bare_mono y ≡
      x → WorthMono (roll-Mono x)
  mono_step x y is = subst (λ z. WorthMono (roll-Mono z)) is (λ k.
      let m = roll-Mono (bare_mono y) in
      let atoms : (out-Mono m).atoms ≡ (bare_mono y).atoms =
      ap (λ (z : Mono-F Atom Body Mono). z.atoms) (out-roll-Mono (bare_mono y)) in
      ap form_value (in_mono_is ws m k) ∙ (λ i.
      form_value (times_all (well (number k)) (map (subst_atom ws) (atoms i))))
      ∙ times_worth y.atoms (well (number k))
      ∙ (λ i. value-number a k i *ℤ product_of (atom_value (updated_assignment a ws)) (sym atoms i))
      ∙ ap (λ n. k *ℤ n) (sym (mono_value_is (updated_assignment a ws) m)))

  abbrev bare_term : PartMono × ℤ → Mono × ℤ
  bare_term t = ((t.0).0, t.1)

  plus_value : (ps : List (PartMono × ℤ)) (done : Formed Body) →
      form_value (plus_all done (map (term_in ws) (map bare_term ps))) ≡
      form_value done +ℤ sum_terms (mono_value (updated_assignment a ws)) (map bare_term ps)
  plus_value [] done = sym (add-zero-int (form_value done))
  plus_value (p ∷ ps) done =
      let x = subst_mono ws (p.0).0 p.1 in
      let rest = sum_terms (mono_value (updated_assignment a ws)) (map bare_term ps) in
      plus_value ps (record {
        form = body_sum done.form x.form;
        within = done.within &&
            (x.within && is_within (body_sum done.form x.form));
      })
      ∙ ap (λ n. n +ℤ rest) (value-body_sum a done.form x.form ∙
      ap (λ n. form_value done +ℤ n) ((p.0).1 p.1))
      ∙ +ℤ_assoc (form_value done) (p.1 *ℤ mono_value (updated_assignment a ws) (p.0).0) rest

  body_step : (x : Body-F Atom Body Mono) (y : Body-F PartAtom PartBody PartMono) → bare_body y ≡
      x → WorthBody (roll-Body x)
  body_step x y is = subst (λ z. WorthBody (roll-Body z)) is (
      let b = roll-Body (bare_body y) in
      let terms : (out-Body b).terms ≡ (bare_body y).terms =
      ap (λ (z : Body-F Atom Body Mono). z.terms) (out-roll-Body (bare_body y)) in
      ap form_value (in_body_is ws b) ∙ (λ i.
      form_value (plus_all (well (of_terms [])) (map (term_in ws) (terms i))))
      ∙ plus_value y.terms (well (of_terms []))
      ∙ (λ i. value-of_terms a [] i +ℤ sum_terms (mono_value (updated_assignment a ws))
      (sym terms i))
      ∙ zero-add-int (sum_terms (mono_value (updated_assignment a ws)) (out-Body b).terms)
      ∙ sym (value_is (updated_assignment a ws) b))

  -- a polynomial with replaced variables has the value that it had where these have the values of
  -- their replacements
  pub value-subst_body : (b : Body) → value a (subst_body ws b).form ≡
      value (updated_assignment a ws) b
  value-subst_body = ind-Body WorthAtom WorthBody WorthMono atom_step body_step mono_step
