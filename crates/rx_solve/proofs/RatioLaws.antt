-- The ratios in atoms, monomials and sums, by those of their parts; their dividends have no
-- variables but those of the polynomial.
use Rattle.std.proofs.Common.{◌≡◌, ◌∙◌, ap, subst, sym, refl, cond, ℕ, take, Bool, true, false, ◌&&◌, Option, Some, None, List, [], ◌∷◌, ◌++◌, map, ℤ}
use Rattle.std.proofs.lemmas.Bool.{and_from, and_parts}
use Rattle.std.proofs.lemmas.List.{append-nil, append_assoc}
use Rattle.std.proofs.lemmas.List.Elements.{All-head, All-tail}
use Rattle.std.proofs.lemmas.List.Folds.{list_all-append}
use Rattle.std.specs.List.{All, flat_map, fold, list_all, list_any}
use Rattle.rx_plain.proofs.Lists.{all_taken}
use Rattle.rx_poly.proofs.Pieces.{all_parts, flat_map-map}
use Rattle.rx_poly.proofs.VariableLaws.{variables_Div, variables_Mod, mono_variables_is, variables_is}
use Rattle.rx_poly.specs.Reading.{constant_of}
use Rattle.rx_poly.specs.Terms.{is_zero}
use Rattle.rx_poly.specs.Variables.{atom_variables, mono_variables, variables}
use Rattle.rx_poly.specs.declared.body.Atom.{Atom, Atom-F, out-Atom, roll-Atom, map-Atom, para-roll-Atom}
use Rattle.rx_poly.specs.declared.body.Atom.TheVariants.{Var, Div, Mod, rolls-Var, outs-Div, outs-Mod, rolls-Div, rolls-Mod}
use Rattle.rx_poly.specs.declared.body.Mono.{Mono, Mono-F, out-Mono, roll-Mono, out-roll-Mono, roll-out-Mono, map-Mono, para-roll-Mono}
use Rattle.rx_poly.specs.declared.body.Body.{Body, Body-F, out-Body, roll-Body, out-roll-Body, roll-out-Body, map-Body, ind-Body, para-roll-Body}
use Rattle.rx_poly.specs.Normal.{is_poly}
use Rattle.rx_poly_laws.proofs.InnerLaws.{inner_polys}
use Rattle.rx_poly_laws.specs.Inner.{inner_of_mono, parts_of}
use Rattle.rx_poly_laws.specs.Tests.{passes}
use Rattle.rx_row.specs.Parts.{poly_of}
use Rattle.rx_row.specs.declared.row.Row.{Row}
use Rattle.rx_cert.specs.Variables.{row_passes, rows_pass}
use Rattle.rx_solve.specs.Divisions.{AreRatiosOf, has_polynomial, ratio_passes, rows_ratios, all_ratios, atom_ratios, atom_ratios_level, body_ratios_level, by_number, mono_ratios, mono_ratios_level, own_ratio, pushed_ratio, ratios, same_ratio}
use Rattle.rx_solve.specs.declared.divisions.Ratio.{Ratio}

-- ---- by parts

-- those of an atom, seen at its first level
abbrev pub ratios_first : Atom-F Atom Body Mono → List Ratio
ratios_first (Atom-F.Var n) = []
ratios_first (Atom-F.Div p q) = own_ratio p q ++ (ratios p ++ ratios q)
ratios_first (Atom-F.Mod p q) = own_ratio p q ++ (ratios p ++ ratios q)

pub ratios_rolled : (y : Atom-F Atom Body Mono) → atom_ratios (roll-Atom y) ≡ ratios_first y
ratios_rolled (Atom-F.Var n) =
    para-roll-Atom (List Ratio) (List Ratio) (List Ratio) atom_ratios_level body_ratios_level
    mono_ratios_level (Atom-F.Var n)
ratios_rolled (Atom-F.Div p q) =
    para-roll-Atom (List Ratio) (List Ratio) (List Ratio) atom_ratios_level body_ratios_level
    mono_ratios_level (Atom-F.Div p q)
ratios_rolled (Atom-F.Mod p q) =
    para-roll-Atom (List Ratio) (List Ratio) (List Ratio) atom_ratios_level body_ratios_level
    mono_ratios_level (Atom-F.Mod p q)

pub ratios_Var : (n : ℕ) → atom_ratios (Var n) ≡ []
ratios_Var n = ap atom_ratios (sym (rolls-Var n)) ∙ ratios_rolled (Atom-F.Var n)

pub ratios_Div : (p q : Body) → atom_ratios (Div p q) ≡ own_ratio p q ++ (ratios p ++ ratios q)
ratios_Div p q = ap atom_ratios (sym (rolls-Div p q)) ∙ ratios_rolled (Atom-F.Div p q)

pub ratios_Mod : (p q : Body) → atom_ratios (Mod p q) ≡ own_ratio p q ++ (ratios p ++ ratios q)
ratios_Mod p q = ap atom_ratios (sym (rolls-Mod p q)) ∙ ratios_rolled (Atom-F.Mod p q)

pub mono_ratios_is : (m : Mono) → mono_ratios m ≡ flat_map atom_ratios (out-Mono m).atoms
mono_ratios_is m =
    ap mono_ratios (sym (roll-out-Mono m))
    ∙ para-roll-Mono (List Ratio) (List Ratio) (List Ratio) atom_ratios_level body_ratios_level
    mono_ratios_level (out-Mono m)
    ∙ flat_map-map (λ (x : Atom × List Ratio). x.1) (λ x. (x, atom_ratios x)) (out-Mono m).atoms

pub ratios_is : (b : Body) → ratios b ≡ flat_map (λ (t : Mono × ℤ). mono_ratios t.0)
    (out-Body b).terms
ratios_is b =
    ap ratios (sym (roll-out-Body b))
    ∙ para-roll-Body (List Ratio) (List Ratio) (List Ratio) atom_ratios_level body_ratios_level
    mono_ratios_level (out-Body b)
    ∙ flat_map-map (λ (t : (Mono × List Ratio) × ℤ). (t.0).1)
    (λ (t : Mono × ℤ). ((t.0, mono_ratios t.0), t.1)) (out-Body b).terms

-- nothing is added by a variable, and what is added by a quotient or remainder is added in order
pub after_Var : (done : List Ratio) (x : Atom) (n : ℕ) → x ≡ Var n → done ≡ done ++ atom_ratios x
after_Var done x n is =
    sym (append-nil done) ∙ ap (λ rs. done ++ rs) (sym (ratios_Var n) ∙ ap atom_ratios (sym is))

pub after_parts : (done : List Ratio) (p q : Body) → ((done ++ own_ratio p q) ++ ratios p) ++
    ratios q ≡ done ++ (own_ratio p q ++ (ratios p ++ ratios q))
after_parts done p q = simp append_assoc

-- ---- variables

module _ (test : ℕ → Bool) where
  abbrev PassAtom : Atom → Type 0
  PassAtom x =
      list_all test (atom_variables x) ≡ true → list_all (ratio_passes test) (atom_ratios x) ≡ true

  abbrev PassBody : Body → Type 0
  PassBody p = passes test p ≡ true → list_all (ratio_passes test) (ratios p) ≡ true

  abbrev PassMono : Mono → Type 0
  PassMono m =
      list_all test (mono_variables m) ≡ true → list_all (ratio_passes test) (mono_ratios m) ≡ true

  abbrev PartAtom : Type 0
  PartAtom = (x : Atom) × PassAtom x

  abbrev PartBody : Type 0
  PartBody = (p : Body) × PassBody p

  abbrev PartMono : Type 0
  PartMono = (m : Mono) × PassMono m

  -- the level without its proofs
  abbrev bare_atom : Atom-F PartAtom PartBody PartMono → Atom-F Atom Body Mono
  bare_atom = map-Atom PartAtom PartBody PartMono Atom Body Mono (λ p. p.0) (λ p. p.0) (λ p. p.0)

  abbrev bare_body : Body-F PartAtom PartBody PartMono → Body-F Atom Body Mono
  bare_body = map-Body PartAtom PartBody PartMono Atom Body Mono (λ p. p.0) (λ p. p.0) (λ p. p.0)

  abbrev bare_mono : Mono-F PartAtom PartBody PartMono → Mono-F Atom Body Mono
  bare_mono = map-Mono PartAtom PartBody PartMono Atom Body Mono (λ p. p.0) (λ p. p.0) (λ p. p.0)

  by_number_passes : (p : Body) (o : Option ℤ) → passes test p ≡ true →
      list_all (ratio_passes test) (by_number p o) ≡ true
  by_number_passes p None h = refl
  by_number_passes p (Some d) h = by (is_zero d)
    where
      by : (b : Bool) → list_all (ratio_passes test) (cond b [] (record { num = p; den = d } ∷ []))
          ≡ true
      by true = refl
      by false = and_from (passes test p) true h refl

  division_passes : (p q : PartBody) → list_all test (variables p.0 ++ variables q.0) ≡ true →
      list_all (ratio_passes test) (own_ratio p.0 q.0 ++ (ratios p.0 ++ ratios q.0)) ≡ true
  division_passes p q h =
      let both = and_parts (passes test p.0) (passes test q.0)
      (sym (list_all-append test (variables p.0) (variables q.0)) ∙ h) in
      list_all-append (ratio_passes test) (own_ratio p.0 q.0) (ratios p.0 ++ ratios q.0)
      ∙ and_from (list_all (ratio_passes test) (own_ratio p.0 q.0))
      (list_all (ratio_passes test) (ratios p.0 ++ ratios q.0))
      (by_number_passes p.0 (constant_of (out-Body q.0).terms) both.0)
      (list_all-append (ratio_passes test) (ratios p.0) (ratios q.0) ∙
      and_from (list_all (ratio_passes test) (ratios p.0))
      (list_all (ratio_passes test) (ratios q.0)) (p.1 both.0) (q.1 both.1))

  atom_level : (y : Atom-F PartAtom PartBody PartMono) → PassAtom (roll-Atom (bare_atom y))
  atom_level (Atom-F.Var n) = λ h. ap (list_all (ratio_passes test)) (ratios_rolled (Atom-F.Var n))
  atom_level (Atom-F.Div p q) = subst PassAtom (sym (rolls-Div p.0 q.0))
      (λ h. ap (list_all (ratio_passes test)) (ratios_Div p.0 q.0) ∙
      division_passes p q (sym (ap (list_all test) (variables_Div p.0 q.0)) ∙ h))
  atom_level (Atom-F.Mod p q) = subst PassAtom (sym (rolls-Mod p.0 q.0))
      (λ h. ap (list_all (ratio_passes test)) (ratios_Mod p.0 q.0) ∙
      division_passes p q (sym (ap (list_all test) (variables_Mod p.0 q.0)) ∙ h))

  atom_step : (x : Atom-F Atom Body Mono) (y : Atom-F PartAtom PartBody PartMono) → bare_atom y ≡
      x → PassAtom (roll-Atom x)
  atom_step x y is = subst (λ z. PassAtom (roll-Atom z)) is (atom_level y)

  atoms_pass : (ps : List PartAtom) → list_all test
      (flat_map atom_variables (map (λ (p : PartAtom). p.0) ps)) ≡ true →
      list_all (ratio_passes test) (flat_map atom_ratios (map (λ (p : PartAtom). p.0) ps)) ≡ true
  atoms_pass [] h = refl
  atoms_pass (p ∷ ps) h =
      let xs = map (λ (q : PartAtom). q.0) ps in
      let g = and_parts (list_all test (atom_variables p.0))
      (list_all test (flat_map atom_variables xs))
      (sym (list_all-append test (atom_variables p.0) (flat_map atom_variables xs)) ∙ h) in
      list_all-append (ratio_passes test) (atom_ratios p.0) (flat_map atom_ratios xs)
      ∙ and_from (list_all (ratio_passes test) (atom_ratios p.0))
      (list_all (ratio_passes test) (flat_map atom_ratios xs)) (p.1 g.0) (atoms_pass ps g.1)

  mono_step : (x : Mono-F Atom Body Mono) (y : Mono-F PartAtom PartBody PartMono) → bare_mono y ≡
      x → PassMono (roll-Mono x)
  mono_step x y is = subst (λ z. PassMono (roll-Mono z)) is (λ h.
      let m = roll-Mono (bare_mono y) in
      let atoms : (out-Mono m).atoms ≡ (bare_mono y).atoms =
      ap (λ (z : Mono-F Atom Body Mono). z.atoms) (out-roll-Mono (bare_mono y)) in
      ap (list_all (ratio_passes test)) (mono_ratios_is m ∙ ap (flat_map atom_ratios) atoms)
      ∙ atoms_pass y.atoms (sym (ap (list_all test)
      (mono_variables_is m ∙ ap (flat_map atom_variables) atoms)) ∙ h))

  abbrev bare_term : PartMono × ℤ → Mono × ℤ
  bare_term t = ((t.0).0, t.1)

  abbrev term_variables : Mono × ℤ → List ℕ
  term_variables t = mono_variables t.0

  abbrev term_ratios : Mono × ℤ → List Ratio
  term_ratios t = mono_ratios t.0

  terms_pass : (ps : List (PartMono × ℤ)) → list_all test
      (flat_map term_variables (map bare_term ps)) ≡ true →
      list_all (ratio_passes test) (flat_map term_ratios (map bare_term ps)) ≡ true
  terms_pass [] h = refl
  terms_pass (p ∷ ps) h =
      let ts = map bare_term ps in
      let m = (p.0).0 in
      let g = and_parts (list_all test (mono_variables m))
      (list_all test (flat_map term_variables ts))
      (sym (list_all-append test (mono_variables m) (flat_map term_variables ts)) ∙ h) in
      list_all-append (ratio_passes test) (mono_ratios m) (flat_map term_ratios ts)
      ∙ and_from (list_all (ratio_passes test) (mono_ratios m))
      (list_all (ratio_passes test) (flat_map term_ratios ts)) ((p.0).1 g.0) (terms_pass ps g.1)

  body_step : (x : Body-F Atom Body Mono) (y : Body-F PartAtom PartBody PartMono) → bare_body y ≡
      x → PassBody (roll-Body x)
  body_step x y is = subst (λ z. PassBody (roll-Body z)) is (λ h.
      let b = roll-Body (bare_body y) in
      let terms : (out-Body b).terms ≡ (bare_body y).terms =
      ap (λ (z : Body-F Atom Body Mono). z.terms) (out-roll-Body (bare_body y)) in
      ap (list_all (ratio_passes test)) (ratios_is b ∙ ap (flat_map term_ratios) terms)
      ∙ terms_pass y.terms (sym (ap (list_all test)
      (variables_is b ∙ ap (flat_map term_variables) terms)) ∙ h))

  ratios_pass : (p : Body) → passes test p ≡ true → list_all (ratio_passes test) (ratios p) ≡ true
  ratios_pass = ind-Body PassAtom PassBody PassMono atom_step body_step mono_step

  -- ---- in rows

  rows_ratios_pass : (rows : List Row) → rows_pass test rows ≡ true →
      list_all (ratio_passes test) (flat_map (λ row. ratios (poly_of row)) rows) ≡ true
  rows_ratios_pass [] h = refl
  rows_ratios_pass (row ∷ rows) h =
      let g = and_parts (row_passes test row) (rows_pass test rows) h in
      let rest = flat_map (λ (r : Row). ratios (poly_of r)) rows in
      list_all-append (ratio_passes test) (ratios (poly_of row)) rest
      ∙ and_from (list_all (ratio_passes test) (ratios (poly_of row)))
      (list_all (ratio_passes test) rest) (ratios_pass (poly_of row) g.0)
      (rows_ratios_pass rows g.1)

  pushed_pass : (done : List Ratio) (r : Ratio) → list_all (ratio_passes test) done ≡ true →
      ratio_passes test r ≡ true → list_all (ratio_passes test) (pushed_ratio done r) ≡ true
  pushed_pass done r h g = by (list_any (λ c. same_ratio c r) done)
    where
      by : (b : Bool) → list_all (ratio_passes test) (cond b done (done ++ r ∷ [])) ≡ true
      by true = h
      by false =
          list_all-append (ratio_passes test) done (r ∷ []) ∙
          and_from (list_all (ratio_passes test) done) (ratio_passes test r && true) h
          (and_from (ratio_passes test r) true g refl)

  each_once_pass : (rs done : List Ratio) → list_all (ratio_passes test) done ≡ true →
      list_all (ratio_passes test) rs ≡ true →
      list_all (ratio_passes test) (fold pushed_ratio done rs) ≡ true
  each_once_pass [] done h g = h
  each_once_pass (r ∷ rs) done h g =
      let p = and_parts (ratio_passes test r) (list_all (ratio_passes test) rs) g in
      each_once_pass rs (pushed_ratio done r) (pushed_pass done r h p.0) p.1

  -- the dividends in rows have no variables but theirs
  pub all_ratios_pass : (rows : List Row) → rows_pass test rows ≡ true →
      list_all (ratio_passes test) (all_ratios rows) ≡ true
  all_ratios_pass rows h =
      each_once_pass (flat_map (λ row. ratios (poly_of row)) rows) [] refl (rows_ratios_pass rows h)

-- ---- dividends are polynomials

module _ where
  abbrev IsPoly : Body → Type 0
  IsPoly p = is_poly p ≡ true

  abbrev PolyAtom : Atom → Type 0
  PolyAtom x = All IsPoly (parts_of (out-Atom x)) → list_all has_polynomial (atom_ratios x) ≡ true

  abbrev PolyBody : Body → Type 0
  PolyBody p = IsPoly p → list_all has_polynomial (ratios p) ≡ true

  abbrev PolyMono : Mono → Type 0
  PolyMono m = All IsPoly (inner_of_mono m) → list_all has_polynomial (mono_ratios m) ≡ true

  abbrev AtomPart : Type 0
  AtomPart = (x : Atom) × PolyAtom x

  abbrev BodyPart : Type 0
  BodyPart = (p : Body) × PolyBody p

  abbrev MonoPart : Type 0
  MonoPart = (m : Mono) × PolyMono m

  abbrev plain_atom : Atom-F AtomPart BodyPart MonoPart → Atom-F Atom Body Mono
  plain_atom = map-Atom AtomPart BodyPart MonoPart Atom Body Mono (λ p. p.0) (λ p. p.0) (λ p. p.0)

  abbrev plain_body : Body-F AtomPart BodyPart MonoPart → Body-F Atom Body Mono
  plain_body = map-Body AtomPart BodyPart MonoPart Atom Body Mono (λ p. p.0) (λ p. p.0) (λ p. p.0)

  abbrev plain_mono : Mono-F AtomPart BodyPart MonoPart → Mono-F Atom Body Mono
  plain_mono = map-Mono AtomPart BodyPart MonoPart Atom Body Mono (λ p. p.0) (λ p. p.0) (λ p. p.0)

  own_poly : (p : Body) (o : Option ℤ) → IsPoly p → list_all has_polynomial (by_number p o) ≡ true
  own_poly p None h = refl
  own_poly p (Some d) h = by (is_zero d)
    where
      by : (b : Bool) → list_all has_polynomial (cond b [] (record { num = p; den = d } ∷ [])) ≡
          true
      by true = refl
      by false = and_from (is_poly p) true h refl

  division_poly : (p q : BodyPart) → All IsPoly (p.0 ∷ q.0 ∷ []) →
      list_all has_polynomial (own_ratio p.0 q.0 ++ (ratios p.0 ++ ratios q.0)) ≡ true
  division_poly p q h =
      let first = All-head IsPoly p.0 (q.0 ∷ []) h in
      let second = All-head IsPoly q.0 [] (All-tail IsPoly p.0 (q.0 ∷ []) h) in
      list_all-append has_polynomial (own_ratio p.0 q.0) (ratios p.0 ++ ratios q.0)
      ∙ and_from (list_all has_polynomial (own_ratio p.0 q.0))
      (list_all has_polynomial (ratios p.0 ++ ratios q.0))
      (own_poly p.0 (constant_of (out-Body q.0).terms) first)
      (list_all-append has_polynomial (ratios p.0) (ratios q.0) ∙
      and_from (list_all has_polynomial (ratios p.0)) (list_all has_polynomial (ratios q.0))
      (p.1 first) (q.1 second))

  poly_atom_level : (y : Atom-F AtomPart BodyPart MonoPart) → PolyAtom (roll-Atom (plain_atom y))
  poly_atom_level (Atom-F.Var n) = λ h. ap (list_all has_polynomial) (ratios_rolled (Atom-F.Var n))
  poly_atom_level (Atom-F.Div p q) = subst PolyAtom (sym (rolls-Div p.0 q.0))
      (λ h. ap (list_all has_polynomial) (ratios_Div p.0 q.0) ∙
      division_poly p q (subst (λ (z : Atom-F Atom Body Mono). All IsPoly (parts_of z))
      (outs-Div p.0 q.0) h))
  poly_atom_level (Atom-F.Mod p q) = subst PolyAtom (sym (rolls-Mod p.0 q.0))
      (λ h. ap (list_all has_polynomial) (ratios_Mod p.0 q.0) ∙
      division_poly p q (subst (λ (z : Atom-F Atom Body Mono). All IsPoly (parts_of z))
      (outs-Mod p.0 q.0) h))

  poly_atom_step : (x : Atom-F Atom Body Mono) (y : Atom-F AtomPart BodyPart MonoPart) →
      plain_atom y ≡ x → PolyAtom (roll-Atom x)
  poly_atom_step x y is = subst (λ z. PolyAtom (roll-Atom z)) is (poly_atom_level y)

  abbrev atom_parts : Atom → List Body
  atom_parts x = parts_of (out-Atom x)

  poly_atoms : (ps : List AtomPart) → All IsPoly
      (flat_map atom_parts (map (λ (p : AtomPart). p.0) ps)) →
      list_all has_polynomial (flat_map atom_ratios (map (λ (p : AtomPart). p.0) ps)) ≡ true
  poly_atoms [] h = refl
  poly_atoms (p ∷ ps) h =
      let xs = map (λ (q : AtomPart). q.0) ps in
      let g = all_parts IsPoly (atom_parts p.0) (flat_map atom_parts xs) h in
      list_all-append has_polynomial (atom_ratios p.0) (flat_map atom_ratios xs)
      ∙ and_from (list_all has_polynomial (atom_ratios p.0))
      (list_all has_polynomial (flat_map atom_ratios xs)) (p.1 g.0) (poly_atoms ps g.1)

  poly_mono_step : (x : Mono-F Atom Body Mono) (y : Mono-F AtomPart BodyPart MonoPart) →
      plain_mono y ≡ x → PolyMono (roll-Mono x)
  poly_mono_step x y is = subst (λ z. PolyMono (roll-Mono z)) is (λ h.
      let m = roll-Mono (plain_mono y) in
      let atoms : (out-Mono m).atoms ≡ (plain_mono y).atoms =
      ap (λ (z : Mono-F Atom Body Mono). z.atoms) (out-roll-Mono (plain_mono y)) in
      ap (list_all has_polynomial) (mono_ratios_is m ∙ ap (flat_map atom_ratios) atoms)
      ∙ poly_atoms y.atoms (subst (λ (xs : List Atom). All IsPoly (flat_map atom_parts xs)) atoms
      h))

  abbrev plain_term : MonoPart × ℤ → Mono × ℤ
  plain_term t = ((t.0).0, t.1)

  abbrev inner_of_term : Mono × ℤ → List Body
  inner_of_term t = inner_of_mono t.0

  abbrev ratios_of_term : Mono × ℤ → List Ratio
  ratios_of_term t = mono_ratios t.0

  poly_terms : (ps : List (MonoPart × ℤ)) → All IsPoly (flat_map inner_of_term (map plain_term ps))
      → list_all has_polynomial (flat_map ratios_of_term (map plain_term ps)) ≡ true
  poly_terms [] h = refl
  poly_terms (p ∷ ps) h =
      let ts = map plain_term ps in
      let m = (p.0).0 in
      let g = all_parts IsPoly (inner_of_mono m) (flat_map inner_of_term ts) h in
      list_all-append has_polynomial (mono_ratios m) (flat_map ratios_of_term ts)
      ∙ and_from (list_all has_polynomial (mono_ratios m))
      (list_all has_polynomial (flat_map ratios_of_term ts)) ((p.0).1 g.0) (poly_terms ps g.1)

  poly_body_step : (x : Body-F Atom Body Mono) (y : Body-F AtomPart BodyPart MonoPart) →
      plain_body y ≡ x → PolyBody (roll-Body x)
  poly_body_step x y is = subst (λ z. PolyBody (roll-Body z)) is (λ h.
      let b = roll-Body (plain_body y) in
      let terms : (out-Body b).terms ≡ (plain_body y).terms =
      ap (λ (z : Body-F Atom Body Mono). z.terms) (out-roll-Body (plain_body y)) in
      ap (list_all has_polynomial) (ratios_is b ∙ ap (flat_map ratios_of_term) terms)
      ∙ poly_terms y.terms (subst (λ (ts : List (Mono × ℤ)). All IsPoly (flat_map inner_of_term ts))
      terms (inner_polys b h)))

  -- the dividends in a polynomial are polynomials
  pub ratios_poly : (p : Body) → is_poly p ≡ true → list_all has_polynomial (ratios p) ≡ true
  ratios_poly = ind-Body PolyAtom PolyBody PolyMono poly_atom_step poly_body_step poly_mono_step

-- ---- the first ratios of rows

pushed_poly : (done : List Ratio) (r : Ratio) → list_all has_polynomial done ≡ true →
    has_polynomial r ≡ true → list_all has_polynomial (pushed_ratio done r) ≡ true
pushed_poly done r h g = by (list_any (λ c. same_ratio c r) done)
  where
    by : (b : Bool) → list_all has_polynomial (cond b done (done ++ r ∷ [])) ≡ true
    by true = h
    by false =
        list_all-append has_polynomial done (r ∷ []) ∙
        and_from (list_all has_polynomial done) (has_polynomial r && true) h
        (and_from (has_polynomial r) true g refl)

pub each_once_poly : (rs done : List Ratio) → list_all has_polynomial done ≡ true →
    list_all has_polynomial rs ≡ true → list_all has_polynomial (fold pushed_ratio done rs) ≡ true
each_once_poly [] done h g = h
each_once_poly (r ∷ rs) done h g =
    let p = and_parts (has_polynomial r) (list_all has_polynomial rs) g in
    each_once_poly rs (pushed_ratio done r) (pushed_poly done r h p.0) p.1

-- so the first ratios of rows are theirs
pub first_ratios_of : (n : ℕ) (rows : List Row) → list_all has_polynomial (rows_ratios rows) ≡
    true → AreRatiosOf (take n (all_ratios rows)) rows
first_ratios_of n rows h = record {
  polynomials =
      all_taken has_polynomial n (all_ratios rows) (each_once_poly (rows_ratios rows) [] refl h);
  own =
      λ test g. all_taken (ratio_passes test) n (all_ratios rows) (all_ratios_pass test rows g);
}

-- those of rows are those of longer lists of rows
pub ratios_of_longer : (rs : List Ratio) (rows more : List Row) → AreRatiosOf rs rows →
    AreRatiosOf rs (rows ++ more)
ratios_of_longer rs rows more a = record {
  polynomials = a.polynomials;
  own =
      λ test h. a.own test (and_parts (rows_pass test rows) (rows_pass test more)
      (sym (list_all-append (row_passes test) rows more) ∙ h)).0;
}

pub ratios_after_first : (r : Ratio) (rs : List Ratio) (rows : List Row) →
    AreRatiosOf (r ∷ rs) rows → AreRatiosOf rs rows
ratios_after_first r rs rows a = record {
  polynomials = (and_parts (has_polynomial r) (list_all has_polynomial rs) a.polynomials).1;
  own =
      λ test h. (and_parts (ratio_passes test r) (list_all (ratio_passes test) rs)
      (a.own test h)).1;
}

pub first_is_poly : (r : Ratio) (rs : List Ratio) (rows : List Row) → AreRatiosOf (r ∷ rs) rows →
    has_polynomial r ≡ true
first_is_poly r rs rows a =
    (and_parts (has_polynomial r) (list_all has_polynomial rs) a.polynomials).0
