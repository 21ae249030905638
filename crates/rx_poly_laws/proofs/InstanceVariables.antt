-- The variables of an instance are those of what its variables are replaced by.
use Rattle.std.proofs.Common.{◌≡◌, ◌∙◌, ap, subst, ℕ, Bool, true, ◌&&◌, sym, List, [], ◌∷◌, ◌++◌, map, ℤ}
use Rattle.std.specs.List.{All, flat_map}
use Rattle.std.proofs.lemmas.List.Elements.{All-head}
use Rattle.rx_poly.specs.Constants.{number}
use Rattle.rx_poly.specs.Limits.{of_terms, body_sum, is_within}
use Rattle.rx_plain.specs.Formed.{Formed}
use Rattle.rx_poly.specs.Products.{body_product, mul_within}
use Rattle.rx_poly.specs.Substitution.{subst_atom, subst_body, subst_mono, plus_all, replaced, times_all}
use Rattle.rx_poly.proofs.Substituting.{in_Var, in_Div, in_Mod, in_mono_is, in_body_is, term_in, well}
use Rattle.rx_poly.specs.declared.body.Atom.{Atom, Atom-F, roll-Atom, map-Atom}
use Rattle.rx_poly.specs.declared.body.Atom.TheVariants.{rolls-Var, rolls-Div, rolls-Mod}
use Rattle.rx_poly.specs.declared.body.Mono.{Mono, Mono-F, out-Mono, roll-Mono, out-roll-Mono, map-Mono}
use Rattle.rx_poly.specs.declared.body.Body.{Body, Body-F, out-Body, roll-Body, out-roll-Body, map-Body, ind-Body}
use Rattle.rx_poly_laws.specs.Tests.{passes}
use Rattle.rx_poly.specs.Variables.{atom_variables, mono_variables, variables}
use Rattle.rx_poly.proofs.Pieces.{all_parts}
use Rattle.rx_poly_laws.proofs.TestLaws.{passes-body_sum, passes-body_product, passes-number, passes-of_terms, passes-quotient_of, passes-remainder_of}
use Rattle.rx_poly.proofs.VariableLaws.{variables_Var, variables_Div, variables_Mod, mono_variables_is, variables_is}

module _ (test : ℕ → Bool) (ws : List (ℕ × Body)) where
  abbrev Replacements : List ℕ → Type 0
  Replacements vs = All (λ v. passes test (replaced ws v) ≡ true) vs

  abbrev PassAtom : Atom → Type 0
  PassAtom x = Replacements (atom_variables x) → passes test (subst_atom ws x).form ≡ true

  abbrev PassBody : Body → Type 0
  PassBody p = Replacements (variables p) → passes test (subst_body ws p).form ≡ true

  abbrev PassMono : Mono → Type 0
  PassMono m =
      Replacements (mono_variables m) → (k : ℤ) → passes test (subst_mono ws m k).form ≡ true

  abbrev PartAtom : Type 0
  PartAtom = (x : Atom) × PassAtom x

  abbrev PartBody : Type 0
  PartBody = (p : Body) × PassBody p

  abbrev PartMono : Type 0
  PartMono = (m : Mono) × PassMono m

  -- the level without its proofs
  abbrev bare_atom : Atom-F PartAtom PartBody PartMono → Atom-F Atom Body Mono
  bare_atom = map-Atom PartAtom PartBody PartMono Atom Body Mono (λ p. p.0) (λ p. p.0) (λ p. p.0)

  abbrev bare_body : Body-F PartAtom PartBody PartMono → Body-F Atom Body Mono
  bare_body = map-Body PartAtom PartBody PartMono Atom Body Mono (λ p. p.0) (λ p. p.0) (λ p. p.0)

  abbrev bare_mono : Mono-F PartAtom PartBody PartMono → Mono-F Atom Body Mono
  bare_mono = map-Mono PartAtom PartBody PartMono Atom Body Mono (λ p. p.0) (λ p. p.0) (λ p. p.0)

  abbrev form_passes : Formed Body → Bool
  form_passes f = passes test f.form

  both_pass : (p q : PartBody) → Replacements (variables p.0 ++ variables q.0) →
      (form_passes (subst_body ws p.0) ≡ true) × (form_passes (subst_body ws q.0) ≡ true)
  both_pass p q h =
      let g = all_parts (λ v. passes test (replaced ws v) ≡ true) (variables p.0) (variables q.0) h
      in (p.1 g.0, q.1 g.1)

  atom_level : (y : Atom-F PartAtom PartBody PartMono) → PassAtom (roll-Atom (bare_atom y))
  atom_level (Atom-F.Var n) = subst PassAtom (sym (rolls-Var n))
      (λ h. ap form_passes (in_Var ws n) ∙ All-head (λ v. passes test (replaced ws v) ≡ true) n []
      (subst Replacements (variables_Var n) h))
  atom_level (Atom-F.Div p q) = subst PassAtom (sym (rolls-Div p.0 q.0))
      (λ h. let e = both_pass p q (subst Replacements (variables_Div p.0 q.0) h) in
      ap form_passes (in_Div ws p.0 q.0) ∙ passes-quotient_of test (subst_body ws p.0).form
      (subst_body ws q.0).form e.0 e.1)
  atom_level (Atom-F.Mod p q) = subst PassAtom (sym (rolls-Mod p.0 q.0))
      (λ h. let e = both_pass p q (subst Replacements (variables_Mod p.0 q.0) h) in
      ap form_passes (in_Mod ws p.0 q.0) ∙ passes-remainder_of test (subst_body ws p.0).form
      (subst_body ws q.0).form e.0 e.1)

  atom_step : (x : Atom-F Atom Body Mono) (y : Atom-F PartAtom PartBody PartMono) → bare_atom y ≡
      x → PassAtom (roll-Atom x)
  atom_step x y is = subst (λ z. PassAtom (roll-Atom z)) is (atom_level y)

  times_pass : (ps : List PartAtom) (done : Formed Body) →
      Replacements (flat_map atom_variables (map (λ (p : PartAtom). p.0) ps)) → form_passes done ≡
      true
      → form_passes (times_all done (map (subst_atom ws) (map (λ (p : PartAtom). p.0) ps))) ≡ true
  times_pass [] done h d = d
  times_pass (p ∷ ps) done h d =
      let g = all_parts (λ v. passes test (replaced ws v) ≡ true) (atom_variables p.0)
      (flat_map atom_variables (map (λ (p : PartAtom). p.0) ps)) h in
      let x = subst_atom ws p.0 in
      times_pass ps (record {
        form = body_product done.form x.form;
        within = done.within &&
            (x.within && mul_within done.form x.form);
      }) g.1
      (passes-body_product test done.form x.form d (p.1 g.0))

  mono_step : (x : Mono-F Atom Body Mono) (y : Mono-F PartAtom PartBody PartMono) → bare_mono y ≡
      x → PassMono (roll-Mono x)
  mono_step x y is = subst (λ z. PassMono (roll-Mono z)) is (λ h k.
      let m = roll-Mono (bare_mono y) in
      let atoms : (out-Mono m).atoms ≡ (bare_mono y).atoms =
      ap (λ (z : Mono-F Atom Body Mono). z.atoms) (out-roll-Mono (bare_mono y)) in
      ap form_passes (in_mono_is ws m k) ∙ ap
      (λ xs. form_passes (times_all (well (number k)) (map (subst_atom ws) xs))) atoms
      ∙ times_pass y.atoms (well (number k)) (subst Replacements
      (mono_variables_is m ∙ ap (flat_map atom_variables) atoms) h) (passes-number test k))

  abbrev bare_term : PartMono × ℤ → Mono × ℤ
  bare_term t = ((t.0).0, t.1)

  abbrev of_term : Mono × ℤ → List ℕ
  of_term t = mono_variables t.0

  plus_pass : (ps : List (PartMono × ℤ)) (done : Formed Body) →
      Replacements (flat_map of_term (map bare_term ps)) → form_passes done ≡ true
      → form_passes (plus_all done (map (term_in ws) (map bare_term ps))) ≡ true
  plus_pass [] done h d = d
  plus_pass (p ∷ ps) done h d =
      let g = all_parts (λ v. passes test (replaced ws v) ≡ true) (mono_variables (p.0).0)
      (flat_map of_term (map bare_term ps)) h in
      let x = subst_mono ws (p.0).0 p.1 in
      plus_pass ps (record {
        form = body_sum done.form x.form;
        within = done.within &&
            (x.within && is_within (body_sum done.form x.form));
      }) g.1
      (passes-body_sum test done.form x.form d ((p.0).1 g.0 p.1))

  body_step : (x : Body-F Atom Body Mono) (y : Body-F PartAtom PartBody PartMono) → bare_body y ≡
      x → PassBody (roll-Body x)
  body_step x y is = subst (λ z. PassBody (roll-Body z)) is (λ h.
      let b = roll-Body (bare_body y) in
      let terms : (out-Body b).terms ≡ (bare_body y).terms =
      ap (λ (z : Body-F Atom Body Mono). z.terms) (out-roll-Body (bare_body y)) in
      ap form_passes (in_body_is ws b) ∙ ap (λ ts.
      form_passes (plus_all (well (of_terms [])) (map (term_in ws) ts))) terms
      ∙ plus_pass y.terms (well (of_terms []))
      (subst Replacements (variables_is b ∙ ap (flat_map of_term) terms) h)
      (passes-of_terms test []))

  -- where the replacement of each variable passes a test, the instance does
  pub instance_passes : (p : Body) → All (λ v. passes test (replaced ws v) ≡ true) (variables p) →
      passes test (subst_body ws p).form ≡ true
  instance_passes = ind-Body PassAtom PassBody PassMono atom_step body_step mono_step
