-- An instance depends only on what the variables of a polynomial are replaced by.
use Rattle.std.proofs.Common.{◌≡◌, ◌∙◌, ap, subst, ℕ, ◌&&◌, refl, sym, List, [], ◌∷◌, ◌++◌, map, ℤ}
use Rattle.std.specs.List.{All, flat_map}
use Rattle.std.proofs.lemmas.List.Elements.{All-head}
use Rattle.rx_poly.specs.Constants.{number}
use Rattle.rx_poly.specs.Division.{quotient_of, remainder_of}
use Rattle.rx_poly.specs.Limits.{of_terms, body_sum, is_within}
use Rattle.rx_plain.specs.Formed.{Formed}
use Rattle.rx_poly.specs.Substitution.{subst_atom, subst_body, subst_mono, plus_all, replaced, times_all}
use Rattle.rx_poly.proofs.Substituting.{in_Var, in_Div, in_Mod, in_mono_is, in_body_is, term_in, well}
use Rattle.rx_poly.specs.declared.body.Atom.{Atom, Atom-F, roll-Atom, map-Atom}
use Rattle.rx_poly.specs.declared.body.Atom.TheVariants.{rolls-Var, rolls-Div, rolls-Mod}
use Rattle.rx_poly.specs.declared.body.Mono.{Mono, Mono-F, out-Mono, roll-Mono, out-roll-Mono, map-Mono}
use Rattle.rx_poly.specs.declared.body.Body.{Body, Body-F, out-Body, roll-Body, out-roll-Body, map-Body, ind-Body}
use Rattle.rx_poly.specs.Variables.{atom_variables, mono_variables, variables}
use Rattle.rx_poly.proofs.Pieces.{all_parts}
use Rattle.rx_poly.proofs.VariableLaws.{variables_Var, variables_Div, variables_Mod, mono_variables_is, variables_is}

module _ (ws us : List (ℕ × Body)) where
  abbrev Same : ℕ → Type 0
  Same v = replaced ws v ≡ replaced us v

  abbrev SameAtom : Atom → Type 0
  SameAtom x = All Same (atom_variables x) → subst_atom ws x ≡ subst_atom us x

  abbrev SameBody : Body → Type 0
  SameBody p = All Same (variables p) → subst_body ws p ≡ subst_body us p

  abbrev SameMono : Mono → Type 0
  SameMono m = All Same (mono_variables m) → (k : ℤ) → subst_mono ws m k ≡ subst_mono us m k

  abbrev PartAtom : Type 0
  PartAtom = (x : Atom) × SameAtom x

  abbrev PartBody : Type 0
  PartBody = (p : Body) × SameBody p

  abbrev PartMono : Type 0
  PartMono = (m : Mono) × SameMono m

  -- the level without its proofs
  abbrev bare_atom : Atom-F PartAtom PartBody PartMono → Atom-F Atom Body Mono
  bare_atom = map-Atom PartAtom PartBody PartMono Atom Body Mono (λ p. p.0) (λ p. p.0) (λ p. p.0)

  abbrev bare_body : Body-F PartAtom PartBody PartMono → Body-F Atom Body Mono
  bare_body = map-Body PartAtom PartBody PartMono Atom Body Mono (λ p. p.0) (λ p. p.0) (λ p. p.0)

  abbrev bare_mono : Mono-F PartAtom PartBody PartMono → Mono-F Atom Body Mono
  bare_mono = map-Mono PartAtom PartBody PartMono Atom Body Mono (λ p. p.0) (λ p. p.0) (λ p. p.0)

  both_same : (p q : PartBody) → All Same (variables p.0 ++ variables q.0) →
      (subst_body ws p.0 ≡ subst_body us p.0) × (subst_body ws q.0 ≡ subst_body us q.0)
  both_same p q h = let g = all_parts Same (variables p.0) (variables q.0) h in (p.1 g.0, q.1 g.1)

  abbrev divided : (Body → Body → Body) → Formed Body → Formed Body → Formed Body
  divided f p q =
      record {
        form = f p.form q.form;
        within = p.within &&
            (q.within && is_within (f p.form q.form));
      }

  atom_level : (y : Atom-F PartAtom PartBody PartMono) → SameAtom (roll-Atom (bare_atom y))
  atom_level (Atom-F.Var n) = subst SameAtom (sym (rolls-Var n))
      (λ h. in_Var ws n ∙ ap well (All-head Same n [] (subst (All Same) (variables_Var n) h)) ∙
      sym (in_Var us n))
  atom_level (Atom-F.Div p q) = subst SameAtom (sym (rolls-Div p.0 q.0))
      (λ h. let e = both_same p q (subst (All Same) (variables_Div p.0 q.0) h) in
      in_Div ws p.0 q.0 ∙ (λ i. divided quotient_of (e.0 i) (e.1 i)) ∙ sym (in_Div us p.0 q.0))
  atom_level (Atom-F.Mod p q) = subst SameAtom (sym (rolls-Mod p.0 q.0))
      (λ h. let e = both_same p q (subst (All Same) (variables_Mod p.0 q.0) h) in
      in_Mod ws p.0 q.0 ∙ (λ i. divided remainder_of (e.0 i) (e.1 i)) ∙ sym (in_Mod us p.0 q.0))

  atom_step : (x : Atom-F Atom Body Mono) (y : Atom-F PartAtom PartBody PartMono) → bare_atom y ≡
      x → SameAtom (roll-Atom x)
  atom_step x y is = subst (λ z. SameAtom (roll-Atom z)) is (atom_level y)

  atoms_same : (ps : List PartAtom) → All Same
      (flat_map atom_variables (map (λ (p : PartAtom). p.0) ps))
      → map (subst_atom ws) (map (λ (p : PartAtom). p.0) ps) ≡
      map (subst_atom us) (map (λ (p : PartAtom). p.0) ps)
  atoms_same [] h = refl
  atoms_same (p ∷ ps) h =
      let g = all_parts Same (atom_variables p.0)
      (flat_map atom_variables (map (λ (p : PartAtom). p.0) ps)) h in
      λ i. p.1 g.0 i ∷ atoms_same ps g.1 i

  mono_step : (x : Mono-F Atom Body Mono) (y : Mono-F PartAtom PartBody PartMono) → bare_mono y ≡
      x → SameMono (roll-Mono x)
  mono_step x y is = subst (λ z. SameMono (roll-Mono z)) is (λ h k.
      let m = roll-Mono (bare_mono y) in
      let atoms : (out-Mono m).atoms ≡ (bare_mono y).atoms =
      ap (λ (z : Mono-F Atom Body Mono). z.atoms) (out-roll-Mono (bare_mono y)) in
      let same = atoms_same y.atoms (subst (All Same)
      (mono_variables_is m ∙ ap (flat_map atom_variables) atoms) h) in
      in_mono_is ws m k ∙ ap (times_all (well (number k)))
      (ap (map (subst_atom ws)) atoms ∙ same ∙ ap (map (subst_atom us)) (sym atoms)) ∙
      sym (in_mono_is us m k))

  abbrev bare_term : PartMono × ℤ → Mono × ℤ
  bare_term t = ((t.0).0, t.1)

  abbrev of_term : Mono × ℤ → List ℕ
  of_term t = mono_variables t.0

  sums_same : (ps : List (PartMono × ℤ)) (done : Formed Body) →
      All Same (flat_map of_term (map bare_term ps))
      → plus_all done (map (term_in ws) (map bare_term ps)) ≡
      plus_all done (map (term_in us) (map bare_term ps))
  sums_same [] done h = refl
  sums_same (p ∷ ps) done h =
      let g = all_parts Same (mono_variables (p.0).0) (flat_map of_term (map bare_term ps)) h in
      let one = (p.0).1 g.0 p.1 in
      let next : Formed Body → Formed Body = λ x.
      record {
        form = body_sum done.form x.form;
        within = done.within &&
            (x.within && is_within (body_sum done.form x.form));
      } in
      sums_same ps (next (subst_mono ws (p.0).0 p.1)) g.1 ∙
      ap (λ x. plus_all (next x) (map (term_in us) (map bare_term ps))) one

  body_step : (x : Body-F Atom Body Mono) (y : Body-F PartAtom PartBody PartMono) → bare_body y ≡
      x → SameBody (roll-Body x)
  body_step x y is = subst (λ z. SameBody (roll-Body z)) is (λ h.
      let b = roll-Body (bare_body y) in
      let terms : (out-Body b).terms ≡ (bare_body y).terms =
      ap (λ (z : Body-F Atom Body Mono). z.terms) (out-roll-Body (bare_body y)) in
      in_body_is ws b ∙ ap (λ ts. plus_all (well (of_terms [])) (map (term_in ws) ts)) terms
      ∙ sums_same y.terms (well (of_terms []))
      (subst (All Same) (variables_is b ∙ ap (flat_map of_term) terms) h)
      ∙ ap (λ ts. plus_all (well (of_terms [])) (map (term_in us) ts)) (sym terms) ∙
      sym (in_body_is us b))

  -- where the variables of a polynomial are replaced by the same, its instances are the same, and
  -- both or neither keep the limits
  pub same_instance : (p : Body) → All (λ v. replaced ws v ≡ replaced us v) (variables p) →
      subst_body ws p ≡ subst_body us p
  same_instance = ind-Body SameAtom SameBody SameMono atom_step body_step mono_step
