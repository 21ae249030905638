-- The value of a sum depends on its variables alone.
use Rattle.std.proofs.Common.{◌≡◌, ◌∙◌, ap, subst, ℕ, ◌<◌, true, refl, sym, List, [], ◌∷◌, ◌++◌, map, ℤ, ◌+ℤ◌, ◌*ℤ◌}
use Rattle.std.specs.Prelude.{nat_lt}
use Rattle.std.specs.List.{All, flat_map}
use Rattle.std.proofs.lemmas.Bool.{ltb-true}
use Rattle.std.proofs.lemmas.List.Elements.{All-head, All-weaker}
use Rattle.std.proofs.lemmas.List.Sums.{AllPass-from_list_all}
use Rattle.rx_poly.specs.Value.{value, atom_value, mono_value, sum_terms, product_of, quotient, remainder}
use Rattle.rx_poly.proofs.DivisionLaws.{value-Div, value-Mod}
use Rattle.rx_poly.proofs.Levels.{value_is, mono_value_is, var_value}
use Rattle.rx_poly.specs.declared.body.Atom.{Atom, Atom-F, roll-Atom, map-Atom}
use Rattle.rx_poly.specs.declared.body.Atom.TheVariants.{rolls-Var, rolls-Div, rolls-Mod}
use Rattle.rx_poly.specs.declared.body.Mono.{Mono, Mono-F, out-Mono, roll-Mono, out-roll-Mono, map-Mono}
use Rattle.rx_poly.specs.declared.body.Body.{Body, Body-F, out-Body, roll-Body, out-roll-Body, map-Body, ind-Body}
use Rattle.rx_poly.specs.Variables.{atom_variables, mono_variables, variables, uses_below}
use Rattle.rx_poly.proofs.Pieces.{all_parts}
use Rattle.rx_poly.proofs.VariableLaws.{variables_Var, variables_Div, variables_Mod, mono_variables_is, variables_is}

module _ (a b : ℕ → ℤ) where
  abbrev Agree : List ℕ → Type 0
  Agree vs = All (λ v. a v ≡ b v) vs

  abbrev AlikeAtom : Atom → Type 0
  AlikeAtom x = Agree (atom_variables x) → atom_value a x ≡ atom_value b x

  abbrev AlikeBody : Body → Type 0
  AlikeBody p = Agree (variables p) → value a p ≡ value b p

  abbrev AlikeMono : Mono → Type 0
  AlikeMono m = Agree (mono_variables m) → mono_value a m ≡ mono_value b m

  abbrev PartAtom : Type 0
  PartAtom = (x : Atom) × AlikeAtom x

  abbrev PartBody : Type 0
  PartBody = (p : Body) × AlikeBody p

  abbrev PartMono : Type 0
  PartMono = (m : Mono) × AlikeMono m

  -- the level without its proofs
  abbrev bare_atom : Atom-F PartAtom PartBody PartMono → Atom-F Atom Body Mono
  bare_atom = map-Atom PartAtom PartBody PartMono Atom Body Mono (λ p. p.0) (λ p. p.0) (λ p. p.0)

  abbrev bare_body : Body-F PartAtom PartBody PartMono → Body-F Atom Body Mono
  bare_body = map-Body PartAtom PartBody PartMono Atom Body Mono (λ p. p.0) (λ p. p.0) (λ p. p.0)

  abbrev bare_mono : Mono-F PartAtom PartBody PartMono → Mono-F Atom Body Mono
  bare_mono = map-Mono PartAtom PartBody PartMono Atom Body Mono (λ p. p.0) (λ p. p.0) (λ p. p.0)

  divided : (p q : PartBody) → Agree (variables p.0 ++ variables q.0) →
      (value a p.0 ≡ value b p.0) × (value a q.0 ≡ value b q.0)
  divided p q h =
      let g = all_parts (λ v. a v ≡ b v) (variables p.0) (variables q.0) h in (p.1 g.0, q.1 g.1)

  atom_level : (y : Atom-F PartAtom PartBody PartMono) → AlikeAtom (roll-Atom (bare_atom y))
  atom_level (Atom-F.Var n) = subst AlikeAtom (sym (rolls-Var n))
      (λ h. var_value a n ∙ All-head (λ v. a v ≡ b v) n [] (subst Agree (variables_Var n) h) ∙
      sym (var_value b n))
  atom_level (Atom-F.Div p q) = subst AlikeAtom (sym (rolls-Div p.0 q.0))
      (λ h. let e = divided p q (subst Agree (variables_Div p.0 q.0) h) in
      value-Div a p.0 q.0 ∙ (λ i. quotient (e.0 i) (e.1 i)) ∙ sym (value-Div b p.0 q.0))
  atom_level (Atom-F.Mod p q) = subst AlikeAtom (sym (rolls-Mod p.0 q.0))
      (λ h. let e = divided p q (subst Agree (variables_Mod p.0 q.0) h) in
      value-Mod a p.0 q.0 ∙ (λ i. remainder (e.0 i) (e.1 i)) ∙ sym (value-Mod b p.0 q.0))

  atom_step : (x : Atom-F Atom Body Mono) (y : Atom-F PartAtom PartBody PartMono) → bare_atom y ≡
      x → AlikeAtom (roll-Atom x)
  atom_step x y is = subst (λ z. AlikeAtom (roll-Atom z)) is (atom_level y)

  products : (ps : List PartAtom) → Agree (flat_map atom_variables (map (λ (p : PartAtom). p.0) ps))
      → product_of (atom_value a) (map (λ (p : PartAtom). p.0) ps) ≡
      product_of (atom_value b) (map (λ (p : PartAtom). p.0) ps)
  products [] h = refl
  products (p ∷ ps) h =
      let g = all_parts (λ v. a v ≡ b v) (atom_variables p.0)
      (flat_map atom_variables (map (λ (p : PartAtom). p.0) ps)) h in
      λ i. p.1 g.0 i *ℤ products ps g.1 i

  mono_step : (x : Mono-F Atom Body Mono) (y : Mono-F PartAtom PartBody PartMono) → bare_mono y ≡
      x → AlikeMono (roll-Mono x)
  mono_step x y is = subst (λ z. AlikeMono (roll-Mono z)) is (λ h.
      let m = roll-Mono (bare_mono y) in
      let atoms : (out-Mono m).atoms ≡ (bare_mono y).atoms =
      ap (λ (z : Mono-F Atom Body Mono). z.atoms) (out-roll-Mono (bare_mono y)) in
      mono_value_is a m ∙ ap (product_of (atom_value a)) atoms
      ∙ products y.atoms (subst Agree (mono_variables_is m ∙ ap (flat_map atom_variables) atoms) h)
      ∙ ap (product_of (atom_value b)) (sym atoms) ∙ sym (mono_value_is b m))

  abbrev bare_term : PartMono × ℤ → Mono × ℤ
  bare_term t = ((t.0).0, t.1)

  abbrev of_term : Mono × ℤ → List ℕ
  of_term t = mono_variables t.0

  sums : (ps : List (PartMono × ℤ)) → Agree (flat_map of_term (map bare_term ps)) →
      sum_terms (mono_value a) (map bare_term ps) ≡ sum_terms (mono_value b) (map bare_term ps)
  sums [] h = refl
  sums (p ∷ ps) h =
      let g = all_parts (λ v. a v ≡ b v) (mono_variables (p.0).0)
      (flat_map of_term (map bare_term ps)) h in
      λ i. p.1 *ℤ (p.0).1 g.0 i +ℤ sums ps g.1 i

  body_step : (x : Body-F Atom Body Mono) (y : Body-F PartAtom PartBody PartMono) → bare_body y ≡
      x → AlikeBody (roll-Body x)
  body_step x y is = subst (λ z. AlikeBody (roll-Body z)) is (λ h.
      let p = roll-Body (bare_body y) in
      let terms : (out-Body p).terms ≡ (bare_body y).terms =
      ap (λ (z : Body-F Atom Body Mono). z.terms) (out-roll-Body (bare_body y)) in
      value_is a p ∙ ap (sum_terms (mono_value a)) terms
      ∙ sums y.terms (subst Agree (variables_is p ∙ ap (flat_map of_term) terms) h)
      ∙ ap (sum_terms (mono_value b)) (sym terms) ∙ sym (value_is b p))

  -- two assignments that agree on a sum's variables give it one value
  pub same_value : (p : Body) → All (λ v. a v ≡ b v) (variables p) → value a p ≡ value b p
  same_value = ind-Body AlikeAtom AlikeBody AlikeMono atom_step body_step mono_step

  -- so do two that agree below a number that all of them are below
  pub same_value_below : (n : ℕ) (p : Body) → ((v : ℕ) → v < n → a v ≡ b v) → uses_below n p ≡
      true → value a p ≡ value b p
  same_value_below n p agree below =
      same_value p (All-weaker (λ v. nat_lt v n ≡ true) (λ v. a v ≡ b v)
      (λ v e. agree v (ltb-true v n e)) (variables p)
      (AllPass-from_list_all (λ v. nat_lt v n) (variables p) below))
