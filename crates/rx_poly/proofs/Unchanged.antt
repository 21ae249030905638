-- A polynomial whose variables stay what they are is unchanged by a substitution, and nothing that
-- is formed on the way passes the limits.
use Rattle.std.proofs.Common.{◌≡◌, ◌∙◌, ap, subst, ℕ, ◌+◌, ◌≤◌, max, Bool, true, false, not, ◌&&◌, refl, sym, List, [], ◌∷◌, ◌++◌, map, append_assoc, Some, None, cond, ℤ, pos, arith}
use Rattle.std.specs.Prelude.{sum_by, int_div, int_rem}
use Rattle.std.specs.List.{All, flat_map, list_all}
use Rattle.std.proofs.lemmas.Bool.{and_parts, not-true}
use Rattle.std.proofs.lemmas.List.{append-nil}
use Rattle.std.proofs.lemmas.List.Elements.{All-head}
use Rattle.std.proofs.lemmas.List.Folds.{list_all-append}
use Rattle.std.proofs.lemmas.List.Sums.{sum_by-append, sum_by-cons}
use Rattle.rx_plain.proofs.Integers.{mul-one-int}
use Rattle.rx_poly.specs.Constants.{variable}
use Rattle.rx_poly.specs.Division.{parts, parts_of, by_number, atom_alone, division, quotient_of, remainder_of}
use Rattle.rx_poly.specs.Limits.{of_terms, of_atoms, body_sum, is_within, atom_size, mono_size, body_size, atom_depth, mono_depth, body_depth, fits_i128, all_fit, is_small}
use Rattle.rx_plain.specs.Formed.{Formed}
use Rattle.rx_poly.specs.Normal.{is_normal, is_normal_atom, is_normal_mono, is_open, is_empty, is_number, is_poly, is_sorted}
use Rattle.rx_poly.specs.Order.{atom_cmp, mono_cmp}
use Rattle.rx_poly.specs.Products.{join_sorted, body_product, mul_within, sum_of_products, sum_of_products_within}
use Rattle.rx_poly.specs.Reading.{constant_of}
use Rattle.rx_poly.specs.Substitution.{replaced, times_all, plus_all, subst_atom, subst_mono, subst_body}
use Rattle.rx_poly.specs.Terms.{add_terms, all_keys, is_sparse_sorted, is_zero}
use Rattle.rx_poly.proofs.Constants.{number-nonzero}
use Rattle.rx_poly.proofs.Levels.{terms-of_terms, atoms-of_atoms, mono_size_is, mono_depth_is, body_size_is, body_depth_is, is_normal_mono_is, div_is_normal, mod_is_normal, size_Div, size_Mod, depth_Div, depth_Mod, small_parts}
use Rattle.rx_poly.proofs.OrderLemmas.{mono_total}
use Rattle.rx_poly.proofs.PolyLaws.{normal_terms}
use Rattle.rx_poly.proofs.Same.{same_mono}
use Rattle.rx_poly.proofs.Substituting.{well, term_in, in_Var, in_Div, in_Mod, in_mono_is, in_body_is}
use Rattle.rx_poly.proofs.TermLaws.{listed_parts}
use Rattle.rx_poly.specs.declared.body.Atom.{Atom, Atom-F, roll-Atom, map-Atom}
use Rattle.rx_poly.specs.declared.body.Atom.TheVariants.{Div, Mod, rolls-Var, rolls-Div, rolls-Mod}
use Rattle.rx_poly.specs.declared.body.Mono.{Mono, Mono-F, out-Mono, roll-Mono, roll-out-Mono, out-roll-Mono, map-Mono, ind-Mono}
use Rattle.rx_poly.specs.declared.body.Body.{Body, Body-F, out-Body, roll-Body, roll-out-Body, out-roll-Body, map-Body, ind-Body}
use Rattle.rx_poly.specs.Variables.{atom_variables, mono_variables, variables}
use Rattle.rx_poly.proofs.Pieces.{all_parts}
use Rattle.rx_poly.proofs.Prefixes.{SmallAtoms, SmallTerms, atoms-prefix, terms-prefix, join-last, add-last, term_within, terms_within, greatest-last}
use Rattle.rx_poly.proofs.VariableLaws.{variables_Var, variables_Div, variables_Mod, mono_variables_is, variables_is}

-- ---- a division that no rule computes stays an atom

-- a first term that is listed isn't 0
first_nonzero : (t : Mono × ℤ) (ts : List (Mono × ℤ)) → is_sparse_sorted mono_cmp (t ∷ ts) ≡ true →
    is_zero t.1 ≡ false
first_nonzero t ts h = (listed_parts mono_cmp mono_total same_mono t ts h).nonzero

-- a sum that is no number has no number
no_constant : (ts : List (Mono × ℤ)) → is_number ts ≡ false → constant_of ts ≡ None
no_constant [] e = cc
no_constant (t ∷ ts) e = ap (λ b. cond b (Some t.1) None) e

by_divisor : (ps qs : List (Mono × ℤ)) → is_sparse_sorted mono_cmp qs ≡ true → is_empty qs ≡ false →
    (b : Bool) → is_number qs ≡ b → (is_number ps && b) ≡ false →
    parts_of (constant_of ps) (constant_of qs) ≡ parts_of None None
by_divisor ps qs l e false n h = ap (parts_of (constant_of ps)) (no_constant qs n)
by_divisor ps [] l e true n h = cc
by_divisor ps (q ∷ qs) l e true n h =
    (λ i. parts_of (constant_of ps) (cond (n i) (Some q.1) None))
    ∙ ap (λ b. cond b (parts_of None (Some (pos 0))) (by_number (constant_of ps) q.1))
    (first_nonzero q qs l)
    ∙ ap (λ m. by_number m q.1) (no_constant ps (by (is_number ps) h))
  where
    by : (c : Bool) → (c && true) ≡ false → c ≡ false
    by true f = cc
    by false f = refl

-- a quotient or remainder that is normal is open
pub stays_open : (p q : Body) → is_normal q ≡ true → is_open p q ≡ true → parts p q ≡
    parts_of None None
stays_open p q n h =
    let g = and_parts (not (is_empty (out-Body q).terms))
    (not (is_number (out-Body p).terms && is_number (out-Body q).terms)) h in
    by_divisor (out-Body p).terms (out-Body q).terms (normal_terms q n).listed
    (not-true (is_empty (out-Body q).terms) g.0)
    (is_number (out-Body q).terms) refl (not-true
    (is_number (out-Body p).terms && is_number (out-Body q).terms) g.1)

-- the last of small atoms is small
last_small : (xs : List Atom) (x : Atom) → SmallAtoms (xs ++ x ∷ []) → (1 + atom_size x ≤ 4096) ×
    (atom_depth x ≤ 64)
last_small xs x s =
    let one : sum_by atom_size (x ∷ []) ≡ atom_size x + 0 = sum_by-cons atom_size x [] in
    let sizes = sum_by-append atom_size xs (x ∷ []) in
    let depths = greatest-last atom_depth xs x in
    (omega (arith, one, sizes, s.size), omega (arith, depths, s.depth))

-- so is the last of small terms
record Last (t : Mono × ℤ) : Type 0 where
  pub nonzero : is_zero t.1 ≡ false
  pub fits : fits_i128 t.1 ≡ true
  pub size : mono_size t.0 ≤ 4096
  pub depth : mono_depth t.0 ≤ 64

last_nonzero : (ts : List (Mono × ℤ)) (t : Mono × ℤ) → is_sparse_sorted mono_cmp (ts ++ t ∷ []) ≡
    true →
    is_zero t.1 ≡ false
last_nonzero [] t h = first_nonzero t [] h
last_nonzero (u ∷ us) t h =
    last_nonzero us t (listed_parts mono_cmp mono_total same_mono u (us ++ t ∷ []) h).rest

last_term : (ts : List (Mono × ℤ)) (t : Mono × ℤ) → SmallTerms (ts ++ t ∷ []) → Last t
last_term ts t s =
    let size_of = λ (u : Mono × ℤ). mono_size u.0 in
    let one : sum_by size_of (t ∷ []) ≡ mono_size t.0 + 0 = sum_by-cons size_of t [] in
    let sizes = sum_by-append size_of ts (t ∷ []) in
    let depths = greatest-last (λ (u : Mono × ℤ). mono_depth u.0) ts t in
    let fit = and_parts (all_fit ts) (all_fit (t ∷ []))
    (sym (list_all-append (λ u. fits_i128 u.1) ts (t ∷ [])) ∙ s.fits) in
    record {
      nonzero = last_nonzero ts t s.listed;
      fits = (and_parts (fits_i128 t.1) true fit.1).0;
      size = omega (arith, one, sizes, s.size);
      depth = omega (arith, depths, s.depth);
    }

-- one atom keeps the limits
alone_within : (x : Atom) → 1 + atom_size x ≤ 4096 → atom_depth x ≤ 64 → is_within (atom_alone x) ≡
    true
alone_within x s d =
    let size : sum_by atom_size (x ∷ []) ≡ atom_size x + 0 = sum_by-cons atom_size x [] in
    term_within (x ∷ []) (pos 1) (record {
      sorted = refl;
      size = omega (arith, size);
      depth =
          omega arith;
    }) refl

-- what is formed of parts that are unchanged
divided : (f : ℤ → ℤ → ℤ) (x : Atom) (p q : Body) (P Q : Formed Body) → P ≡ well p → Q ≡ well q →
    parts p q ≡ parts_of None None → is_within (atom_alone x) ≡ true →
    record {
      form = division f (atom_alone x) (parts p q);
      within = true &&
          (true && is_within (division f (atom_alone x) (parts p q)));
    } ≡ well (atom_alone x)
divided f x p q P Q pe qe o w =
    (λ i. record {
      form = division f (atom_alone x) (o i);
      within = true &&
          (true && is_within (division f (atom_alone x) (o i)));
    })
    ∙ (λ i. record { form = atom_alone x; within = true && (true && w i) })

module _ (ws : List (ℕ × Body)) where
  -- these variables stay what they are
  abbrev pub Stay : List ℕ → Type 0
  Stay vs = All (λ v. replaced ws v ≡ variable v) vs

  abbrev KeptAtom : Atom → Type 0
  KeptAtom x =
      Stay (atom_variables x) → is_normal_atom x ≡ true → 1 + atom_size x ≤ 4096 → atom_depth x ≤
      64 → subst_atom ws x ≡ well (atom_alone x)

  abbrev KeptBody : Body → Type 0
  KeptBody p =
      Stay (variables p) → is_normal p ≡ true → body_size p ≤ 4096 → body_depth p ≤ 64 →
      subst_body ws p ≡ well p

  abbrev KeptMono : Mono → Type 0
  KeptMono m =
      (k : ℤ) → Stay (mono_variables m) → is_normal_mono m ≡ true → is_zero k ≡ false →
      fits_i128 k ≡ true → mono_size m ≤ 4096 → mono_depth m ≤ 64 → subst_mono ws m k ≡
      well (of_terms ((m, k) ∷ []))

  abbrev PartAtom : Type 0
  PartAtom = (x : Atom) × KeptAtom x

  abbrev PartBody : Type 0
  PartBody = (p : Body) × KeptBody p

  abbrev PartMono : Type 0
  PartMono = (m : Mono) × KeptMono m

  -- the level without its proofs
  abbrev bare_atom : Atom-F PartAtom PartBody PartMono → Atom-F Atom Body Mono
  bare_atom = map-Atom PartAtom PartBody PartMono Atom Body Mono (λ p. p.0) (λ p. p.0) (λ p. p.0)

  abbrev bare_body : Body-F PartAtom PartBody PartMono → Body-F Atom Body Mono
  bare_body = map-Body PartAtom PartBody PartMono Atom Body Mono (λ p. p.0) (λ p. p.0) (λ p. p.0)

  abbrev bare_mono : Mono-F PartAtom PartBody PartMono → Mono-F Atom Body Mono
  bare_mono = map-Mono PartAtom PartBody PartMono Atom Body Mono (λ p. p.0) (λ p. p.0) (λ p. p.0)

  -- the two parts of a division
  both : (p q : PartBody) → Stay (variables p.0 ++ variables q.0) →
      ((is_normal p.0 && is_normal q.0) && is_open p.0 q.0) ≡ true → body_size p.0 + body_size q.0 ≤
      4095 → max (body_depth p.0) (body_depth q.0) ≤ 63
      → (subst_body ws p.0 ≡ well p.0) × (subst_body ws q.0 ≡ well q.0) ×
      (parts p.0 q.0 ≡ parts_of None None)
  both p q st n s d =
      let v = all_parts (λ v. replaced ws v ≡ variable v) (variables p.0) (variables q.0) st in
      let o = and_parts (is_normal p.0 && is_normal q.0) (is_open p.0 q.0) n in
      let m = and_parts (is_normal p.0) (is_normal q.0) o.0 in (
        p.1 v.0 m.0 (omega arith) (omega arith),
        q.1 v.1 m.1 (omega arith) (omega arith),
        stays_open p.0 q.0 m.1 o.1,
      )

  atom_level : (y : Atom-F PartAtom PartBody PartMono) → KeptAtom (roll-Atom (bare_atom y))
  atom_level (Atom-F.Var n) = subst KeptAtom (sym (rolls-Var n))
      (λ st h s d. in_Var ws n ∙ ap well (All-head (λ v. replaced ws v ≡ variable v) n []
      (subst Stay (variables_Var n) st)))
  atom_level (Atom-F.Div p q) = subst KeptAtom (sym (rolls-Div p.0 q.0)) (λ st h s d.
      let size = size_Div p.0 q.0 in
      let depth = depth_Div p.0 q.0 in
      let e = both p q (subst Stay (variables_Div p.0 q.0) st) (sym (div_is_normal p.0 q.0) ∙ h)
      (omega (arith, size, s)) (omega (arith, depth, d)) in
      in_Div ws p.0 q.0
      ∙ (λ i. record {
        form = quotient_of (e.0 i).form (e.1 i).form;
        within = (e.0 i).within &&
            ((e.1 i).within && is_within (quotient_of (e.0 i).form (e.1 i).form));
      })
      ∙ divided int_div (Div p.0 q.0) p.0 q.0 (subst_body ws p.0) (subst_body ws q.0) e.0 e.1 e.2
      (alone_within (Div p.0 q.0) s d))
  atom_level (Atom-F.Mod p q) = subst KeptAtom (sym (rolls-Mod p.0 q.0)) (λ st h s d.
      let size = size_Mod p.0 q.0 in
      let depth = depth_Mod p.0 q.0 in
      let e = both p q (subst Stay (variables_Mod p.0 q.0) st) (sym (mod_is_normal p.0 q.0) ∙ h)
      (omega (arith, size, s)) (omega (arith, depth, d)) in
      in_Mod ws p.0 q.0
      ∙ (λ i. record {
        form = remainder_of (e.0 i).form (e.1 i).form;
        within = (e.0 i).within &&
            ((e.1 i).within && is_within (remainder_of (e.0 i).form (e.1 i).form));
      })
      ∙ divided int_rem (Mod p.0 q.0) p.0 q.0 (subst_body ws p.0) (subst_body ws q.0) e.0 e.1 e.2
      (alone_within (Mod p.0 q.0) s d))

  atom_step : (x : Atom-F Atom Body Mono) (y : Atom-F PartAtom PartBody PartMono) → bare_atom y ≡
      x → KeptAtom (roll-Atom x)
  atom_step x y is = subst (λ z. KeptAtom (roll-Atom z)) is (atom_level y)

  -- ---- products

  -- a product of sorted atoms, times one after them
  times_one : (done : List Atom) (x : Atom) (k : ℤ) → SmallAtoms (done ++ x ∷ []) → fits_i128 k ≡
      true
      → record {
        form = body_product (of_terms ((of_atoms done, k) ∷ [])) (atom_alone x);
        within =
            true && (true && mul_within (of_terms ((of_atoms done, k) ∷ [])) (atom_alone x));
      } ≡
      well (of_terms ((of_atoms (done ++ x ∷ []), k) ∷ []))
  times_one done x k s f =
      let left = (of_atoms done, k) ∷ [] in
      let right = (of_atoms (x ∷ []), pos 1) ∷ [] in
      let made : join_sorted atom_cmp (out-Mono (of_atoms done)).atoms
      (out-Mono (of_atoms (x ∷ []))).atoms ≡ done ++ x ∷ [] =
      (λ i. join_sorted atom_cmp (atoms-of_atoms done i) (atoms-of_atoms (x ∷ []) i)) ∙
      join-last done x s.sorted in
      let w = term_within (done ++ x ∷ []) k s f in
      (λ i. record {
        form = of_terms (sum_of_products [] (terms-of_terms left i) (terms-of_terms right i));
        within = sum_of_products_within [] (terms-of_terms left i) (terms-of_terms right i);
      })
      ∙ (λ i. record {
        form = of_terms ((of_atoms (made i), mul-one-int k i) ∷ []);
        within =
            is_within (of_terms ((of_atoms (made i), mul-one-int k i) ∷ [])) &&
            (is_within (of_terms ((of_atoms (made i), mul-one-int k i) ∷ [])) && true);
      })
      ∙ (λ i. record {
        form = of_terms ((of_atoms (done ++ x ∷ []), k) ∷ []);
        within = w i &&
            (w i && true);
      })

  abbrev bare_atoms : List PartAtom → List Atom
  bare_atoms ps = map (λ (p : PartAtom). p.0) ps

  times_kept : (ps : List PartAtom) (done : List Atom) (k : ℤ) →
      Stay (flat_map atom_variables (bare_atoms ps)) → list_all is_normal_atom (bare_atoms ps) ≡
      true → SmallAtoms (done ++ bare_atoms ps) → fits_i128 k ≡ true
      → times_all (well (of_terms ((of_atoms done, k) ∷ []))) (map (subst_atom ws) (bare_atoms ps))
      ≡
      well (of_terms ((of_atoms (done ++ bare_atoms ps), k) ∷ []))
  times_kept [] done k st n s f =
      ap (λ xs. well (of_terms ((of_atoms xs, k) ∷ []))) (sym (append-nil done))
  times_kept (p ∷ ps) done k st n s f =
      let v = all_parts (λ v. replaced ws v ≡ variable v) (atom_variables p.0)
      (flat_map atom_variables (bare_atoms ps)) st in
      let m = and_parts (is_normal_atom p.0) (list_all is_normal_atom (bare_atoms ps)) n in
      let together : (done ++ p.0 ∷ []) ++ bare_atoms ps ≡ done ++ p.0 ∷ bare_atoms ps =
      append_assoc done (p.0 ∷ []) (bare_atoms ps) in
      let whole : SmallAtoms ((done ++ p.0 ∷ []) ++ bare_atoms ps) =
      subst SmallAtoms (sym together) s in
      let first : SmallAtoms (done ++ p.0 ∷ []) =
      atoms-prefix (done ++ p.0 ∷ []) (bare_atoms ps) whole in
      let last = last_small done p.0 first in
      let factor = p.1 v.0 m.0 last.0 last.1 in
      (λ i. times_all (record {
        form = body_product (of_terms ((of_atoms done, k) ∷ [])) (factor i).form;
        within =
            true && ((factor i).within && mul_within (of_terms ((of_atoms done, k) ∷ []))
            (factor i).form);
      }) (map (subst_atom ws) (bare_atoms ps)))
      ∙ ap (λ w. times_all w (map (subst_atom ws) (bare_atoms ps))) (times_one done p.0 k first f)
      ∙ times_kept ps (done ++ p.0 ∷ []) k v.1 m.1 whole f
      ∙ ap (λ xs. well (of_terms ((of_atoms xs, k) ∷ []))) together

  mono_step : (x : Mono-F Atom Body Mono) (y : Mono-F PartAtom PartBody PartMono) → bare_mono y ≡
      x → KeptMono (roll-Mono x)
  mono_step x y is = subst (λ z. KeptMono (roll-Mono z)) is (λ k st n z f s d.
      let m = roll-Mono (bare_mono y) in
      let atoms : (out-Mono m).atoms ≡ bare_atoms y.atoms =
      ap (λ (z : Mono-F Atom Body Mono). z.atoms) (out-roll-Mono (bare_mono y)) in
      let normal = and_parts (list_all is_normal_atom (out-Mono m).atoms)
      (is_sorted atom_cmp (out-Mono m).atoms) (sym (is_normal_mono_is m) ∙ n) in
      let small : SmallAtoms (out-Mono m).atoms = record {
        sorted = normal.1;
        size = subst (λ j. j ≤ 4096) (mono_size_is m) s;
        depth = subst (λ j. j ≤ 64) (mono_depth_is m) d;
      } in
      in_mono_is ws m k
      ∙ (λ i. times_all (well (number-nonzero k z i)) (map (subst_atom ws) (atoms i)))
      ∙ times_kept y.atoms [] k (subst Stay (mono_variables_is m ∙
      ap (flat_map atom_variables) atoms) st)
      (sym (ap (list_all is_normal_atom) atoms) ∙ normal.0) (subst SmallAtoms atoms small) f
      ∙ (λ i. well (of_terms ((of_atoms (sym atoms i), k) ∷ []))) ∙
      ap (λ n. well (of_terms ((n, k) ∷ []))) (roll-out-Mono m))

  -- ---- sums

  abbrev bare_term : PartMono × ℤ → Mono × ℤ
  bare_term t = ((t.0).0, t.1)

  abbrev bare_terms : List (PartMono × ℤ) → List (Mono × ℤ)
  bare_terms ps = map bare_term ps

  abbrev of_term : Mono × ℤ → List ℕ
  of_term t = mono_variables t.0

  -- a listed sum, plus one term after it
  plus_one : (done : List (Mono × ℤ)) (t : Mono × ℤ) → SmallTerms (done ++ t ∷ [])
      → record {
        form = body_sum (of_terms done) (of_terms (t ∷ []));
        within = true &&
            (true && is_within (body_sum (of_terms done) (of_terms (t ∷ []))));
      } ≡
      well (of_terms (done ++ t ∷ []))
  plus_one done t s =
      let made : add_terms mono_cmp (out-Body (of_terms done)).terms
      (out-Body (of_terms (t ∷ []))).terms ≡ done ++ t ∷ [] =
      (λ i. add_terms mono_cmp (terms-of_terms done i) (terms-of_terms (t ∷ []) i)) ∙
      add-last done t s.listed in
      (λ i. record { form = of_terms (made i); within = is_within (of_terms (made i)) })
      ∙ (λ i. record {
        form = of_terms (done ++ t ∷ []);
        within =
            terms_within (done ++ t ∷ []) s i;
      })

  plus_kept : (ps : List (PartMono × ℤ)) (done : List (Mono × ℤ)) →
      Stay (flat_map of_term (bare_terms ps)) → all_keys is_normal_mono (bare_terms ps) ≡ true →
      SmallTerms (done ++ bare_terms ps)
      → plus_all (well (of_terms done)) (map (term_in ws) (bare_terms ps)) ≡
      well (of_terms (done ++ bare_terms ps))
  plus_kept [] done st n s = ap (λ ts. well (of_terms ts)) (sym (append-nil done))
  plus_kept (p ∷ ps) done st n s =
      let t = bare_term p in
      let v = all_parts (λ v. replaced ws v ≡ variable v) (mono_variables t.0)
      (flat_map of_term (bare_terms ps)) st in
      let m = and_parts (is_normal_mono t.0) (all_keys is_normal_mono (bare_terms ps)) n in
      let together : (done ++ t ∷ []) ++ bare_terms ps ≡ done ++ t ∷ bare_terms ps =
      append_assoc done (t ∷ []) (bare_terms ps) in
      let whole : SmallTerms ((done ++ t ∷ []) ++ bare_terms ps) =
      subst SmallTerms (sym together) s in
      let first : SmallTerms (done ++ t ∷ []) =
      terms-prefix (done ++ t ∷ []) (bare_terms ps) whole in
      let last = last_term done t first in
      let product = (p.0).1 p.1 v.0 m.0 last.nonzero last.fits last.size last.depth in
      (λ i. plus_all (record {
        form = body_sum (of_terms done) (product i).form;
        within =
            true && ((product i).within && is_within (body_sum (of_terms done) (product i).form));
      }) (map (term_in ws) (bare_terms ps)))
      ∙ ap (λ w. plus_all w (map (term_in ws) (bare_terms ps))) (plus_one done t first)
      ∙ plus_kept ps (done ++ t ∷ []) v.1 m.1 whole
      ∙ ap (λ ts. well (of_terms ts)) together

  body_step : (x : Body-F Atom Body Mono) (y : Body-F PartAtom PartBody PartMono) → bare_body y ≡
      x → KeptBody (roll-Body x)
  body_step x y is = subst (λ z. KeptBody (roll-Body z)) is (λ st n s d.
      let p = roll-Body (bare_body y) in
      let terms : (out-Body p).terms ≡ bare_terms y.terms =
      ap (λ (z : Body-F Atom Body Mono). z.terms) (out-roll-Body (bare_body y)) in
      let normal = normal_terms p n in
      let small : SmallTerms (out-Body p).terms = record {
        listed = normal.listed;
        fits = normal.fits;
        size = subst (λ j. j ≤ 4096) (body_size_is p) s;
        depth = subst (λ j. j ≤ 64) (body_depth_is p) d;
      } in
      in_body_is ws p
      ∙ (λ i. plus_all (well (of_terms [])) (map (term_in ws) (terms i)))
      ∙ plus_kept y.terms [] (subst Stay (variables_is p ∙ ap (flat_map of_term) terms) st)
      (sym (ap (all_keys is_normal_mono) terms) ∙ normal.keys) (subst SmallTerms terms small)
      ∙ (λ i. well (of_terms (sym terms i))) ∙ ap well (roll-out-Body p))

  kept : (p : Body) → KeptBody p
  kept = ind-Body KeptAtom KeptBody KeptMono atom_step body_step mono_step

  -- a number times a monomial whose variables stay is one term
  pub term_stays : (m : Mono) (k : ℤ) → All (λ v. replaced ws v ≡ variable v) (mono_variables m) →
      is_normal_mono m ≡ true → is_zero k ≡ false → fits_i128 k ≡ true → mono_size m ≤ 4096 →
      mono_depth m ≤ 64 → subst_mono ws m k ≡ well (of_terms ((m, k) ∷ []))
  term_stays = ind-Mono KeptAtom KeptBody KeptMono atom_step body_step mono_step

  -- where each variable of a polynomial stays what it is, so does the polynomial, and nothing
  -- passes the limits
  pub unchanged : (p : Body) → is_poly p ≡ true →
      All (λ v. replaced ws v ≡ variable v) (variables p) → subst_body ws p ≡ well p
  unchanged p h st =
      let n = and_parts (is_normal p) (is_small p) h in
      let s = small_parts p n.1 in
      kept p st n.0 s.0 s.1

  pub same_form : (p : Body) → is_poly p ≡ true →
      All (λ v. replaced ws v ≡ variable v) (variables p) → (subst_body ws p).form ≡ p
  same_form p h st = ap (λ (w : Formed Body). w.form) (unchanged p h st)

  pub all_within : (p : Body) → is_poly p ≡ true →
      All (λ v. replaced ws v ≡ variable v) (variables p) → (subst_body ws p).within ≡ true
  all_within p h st = ap (λ (w : Formed Body). w.within) (unchanged p h st)
