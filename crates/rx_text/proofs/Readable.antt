-- Readable polynomials are sums as they are read, and among these those that are polynomials are
-- readable.
use Rattle.std.proofs.Common.{◌≡◌, ◌∙◌, ap, subst, refl, sym, ℕ, zero, suc, ◌+◌, ◌≤◌, max, Bool, true, not, ◌&&◌, List, [], ◌∷◌, drop, arith, None, ℤ}
use Rattle.std.proofs.lemmas.Bool.{and_from, and_parts}
use Rattle.std.specs.List.{list_all}
use Rattle.rx_poly.specs.Limits.{all_fit, atom_depth, body_depth, fits_i128, greatest, is_small, mono_depth}
use Rattle.rx_poly.specs.Normal.{is_normal, is_normal_atom, is_normal_mono, is_open, is_poly, is_sorted}
use Rattle.rx_poly.specs.Order.{atom_cmp, mono_cmp}
use Rattle.rx_poly.specs.Terms.{all_keys, is_before, is_sparse_sorted, is_zero}
use Rattle.rx_poly.specs.Variables.{atom_uses_below, mono_uses_below, uses_below}
use Rattle.rx_poly.specs.declared.body.Atom.{Atom, Atom-F, out-Atom, roll-Atom, roll-out-Atom}
use Rattle.rx_poly.specs.declared.body.Atom.TheVariants.{Div, Mod, rolls-Var, rolls-Div, rolls-Mod}
use Rattle.rx_poly.specs.declared.body.Body.{Body, out-Body}
use Rattle.rx_poly.specs.declared.body.Mono.{Mono, out-Mono}
use Rattle.rx_poly.proofs.Levels.{body_depth_is, depth_Div, depth_Mod, div_is_normal, is_normal_mono_is, mod_is_normal, mono_depth_is, small_parts}
use Rattle.rx_poly.proofs.PolyLaws.{normal_terms}
use Rattle.rx_poly.proofs.VariableLaws.{below_Div, below_Mod, below_Var, below_is, mono_below_is}
use Rattle.rx_text.specs.Formats.{BeginsWith, IsUnambiguous, Reads, StandsAt}
use Rattle.rx_text.specs.Plain.{is_coefficient, is_plain, is_plain_atom, is_plain_inside, is_plain_level, is_plain_term, sums_nested}
use Rattle.rx_text.specs.Polynomials.{is_readable_poly, polynomials}
use Rattle.rx_text.proofs.Nesting.{plain_unambiguous}

weaker : {X : Type 0} (p q : X → Bool) (xs : List X) → ((x : X) → p x ≡ true → q x ≡ true)
    → list_all p xs ≡ true → list_all q xs ≡ true
weaker p q [] h a = refl
weaker p q (x ∷ xs) h a =
    let b = and_parts (p x) (list_all p xs) a in
    and_from (q x) (list_all q xs) (h x b.0) (weaker p q xs h b.1)

-- ---- the variables of what is read

module _ (inner : Body → Bool) (ih : (q : Body) → inner q ≡ true → uses_below 1000000 q ≡ true)
  where
    atom_below_by : (x : Atom) (y : Atom-F Atom Body Mono) → out-Atom x ≡ y
        → is_plain_level inner y ≡ true → atom_uses_below 1000000 x ≡ true
    atom_below_by x (Atom-F.Var n) e h =
        ap (atom_uses_below 1000000) (sym (roll-out-Atom x) ∙ ap roll-Atom e ∙ rolls-Var n)
        ∙ below_Var 1000000 n ∙ h
    atom_below_by x (Atom-F.Div p q) e h =
        let b = and_parts (inner p) (inner q) h in
        ap (atom_uses_below 1000000) (sym (roll-out-Atom x) ∙ ap roll-Atom e ∙ rolls-Div p q)
        ∙ below_Div 1000000 p q
        ∙ and_from (uses_below 1000000 p) (uses_below 1000000 q) (ih p b.0) (ih q b.1)
    atom_below_by x (Atom-F.Mod p q) e h =
        let b = and_parts (inner p) (inner q) h in
        ap (atom_uses_below 1000000) (sym (roll-out-Atom x) ∙ ap roll-Atom e ∙ rolls-Mod p q)
        ∙ below_Mod 1000000 p q
        ∙ and_from (uses_below 1000000 p) (uses_below 1000000 q) (ih p b.0) (ih q b.1)

    term_below : (t : Mono × ℤ) → is_plain_term inner t ≡ true → mono_uses_below 1000000 t.0 ≡ true
    term_below t h =
        mono_below_is 1000000 t.0
        ∙ weaker (is_plain_atom inner) (atom_uses_below 1000000) (out-Mono t.0).atoms
        (λ x e. atom_below_by x (out-Atom x) refl e)
        (and_parts (is_coefficient t.1) (list_all (is_plain_atom inner) (out-Mono t.0).atoms) h).1

    plain_below : (p : Body) → is_plain inner p ≡ true → uses_below 1000000 p ≡ true
    plain_below p h =
        below_is 1000000 p
        ∙ weaker (is_plain_term inner) (λ (t : Mono × ℤ). mono_uses_below 1000000 t.0)
        (out-Body p).terms term_below h

inside_below : (n : ℕ) (p : Body) → is_plain_inside n p ≡ true → uses_below 1000000 p ≡ true
unfolding is_plain_inside
inside_below zero p h = cc
inside_below (suc n) p h = plain_below (is_plain_inside n) (inside_below n) p h

-- ---- what is asked of a normal form

-- a part that is normal and not too deep passes
abbrev Parts : (Body → Bool) → ℕ → Type 0
Parts inner n =
    (q : Body) → is_normal q ≡ true → uses_below 1000000 q ≡ true → suc (body_depth q) ≤ n
    → inner q ≡ true

module _ (inner : Body → Bool) (n : ℕ) (ih : Parts inner n) where
  atom_plain_by : (x : Atom) (y : Atom-F Atom Body Mono) → out-Atom x ≡ y → is_normal_atom x ≡ true
      → atom_uses_below 1000000 x ≡ true → atom_depth x ≤ n → is_plain_level inner y ≡ true
  atom_plain_by x (Atom-F.Var v) e a b d =
      sym
      (ap (atom_uses_below 1000000) (sym (roll-out-Atom x) ∙ ap roll-Atom e ∙ rolls-Var v) ∙
      below_Var 1000000 v)
      ∙ b
  atom_plain_by x (Atom-F.Div p q) e a b d =
      let is : x ≡ Div p q = sym (roll-out-Atom x) ∙ ap roll-Atom e ∙ rolls-Div p q in
      let normal =
      and_parts (is_normal p && is_normal q) (is_open p q)
      (sym (ap is_normal_atom is ∙ div_is_normal p q) ∙ a) in
      let both = and_parts (is_normal p) (is_normal q) normal.0 in
      let below =
      and_parts (uses_below 1000000 p) (uses_below 1000000 q)
      (sym (ap (atom_uses_below 1000000) is ∙ below_Div 1000000 p q) ∙ b) in
      let deep : atom_depth x ≡ 1 + max (body_depth p) (body_depth q) =
      ap atom_depth is ∙ depth_Div p q in
      and_from (inner p) (inner q) (ih p both.0 below.0 (omega (arith, deep, d)))
      (ih q both.1 below.1 (omega (arith, deep, d)))
  atom_plain_by x (Atom-F.Mod p q) e a b d =
      let is : x ≡ Mod p q = sym (roll-out-Atom x) ∙ ap roll-Atom e ∙ rolls-Mod p q in
      let normal =
      and_parts (is_normal p && is_normal q) (is_open p q)
      (sym (ap is_normal_atom is ∙ mod_is_normal p q) ∙ a) in
      let both = and_parts (is_normal p) (is_normal q) normal.0 in
      let below =
      and_parts (uses_below 1000000 p) (uses_below 1000000 q)
      (sym (ap (atom_uses_below 1000000) is ∙ below_Mod 1000000 p q) ∙ b) in
      let deep : atom_depth x ≡ 1 + max (body_depth p) (body_depth q) =
      ap atom_depth is ∙ depth_Mod p q in
      and_from (inner p) (inner q) (ih p both.0 below.0 (omega (arith, deep, d)))
      (ih q both.1 below.1 (omega (arith, deep, d)))

  atoms_plain : (xs : List Atom) → list_all is_normal_atom xs ≡ true
      → list_all (atom_uses_below 1000000) xs ≡ true → greatest atom_depth xs ≤ n
      → list_all (is_plain_atom inner) xs ≡ true
  atoms_plain [] a b d = refl
  atoms_plain (x ∷ xs) a b d =
      let normal = and_parts (is_normal_atom x) (list_all is_normal_atom xs) a in
      let below = and_parts (atom_uses_below 1000000 x) (list_all (atom_uses_below 1000000) xs) b in
      and_from (is_plain_atom inner x) (list_all (is_plain_atom inner) xs)
      (atom_plain_by x (out-Atom x) refl normal.0 below.0 (omega (arith, d)))
      (atoms_plain xs normal.1 below.1 (omega (arith, d)))

  mono_plain : (m : Mono) → is_normal_mono m ≡ true → mono_uses_below 1000000 m ≡ true
      → mono_depth m ≤ n → list_all (is_plain_atom inner) (out-Mono m).atoms ≡ true
  mono_plain m a b d =
      let normal =
      and_parts (list_all is_normal_atom (out-Mono m).atoms) (is_sorted atom_cmp (out-Mono m).atoms)
      (sym (is_normal_mono_is m) ∙ a) in
      atoms_plain (out-Mono m).atoms normal.0 (sym (mono_below_is 1000000 m) ∙ b)
      (subst (λ k. k ≤ n) (mono_depth_is m) d)

  terms_plain : (ts : List (Mono × ℤ)) → all_keys is_normal_mono ts ≡ true → all_fit ts ≡ true
      → is_sparse_sorted mono_cmp ts ≡ true
      → list_all (λ (t : Mono × ℤ). mono_uses_below 1000000 t.0) ts ≡ true
      → greatest (λ (t : Mono × ℤ). mono_depth t.0) ts ≤ n
      → list_all (is_plain_term inner) ts ≡ true
  terms_plain [] a f l b d = refl
  terms_plain (t ∷ ts) a f l b d =
      let normal = and_parts (is_normal_mono t.0) (all_keys is_normal_mono ts) a in
      let fits = and_parts (fits_i128 t.1) (all_fit ts) f in
      let listed =
      and_parts (not (is_zero t.1)) (is_before mono_cmp t.0 ts && is_sparse_sorted mono_cmp ts) l in
      let others = and_parts (is_before mono_cmp t.0 ts) (is_sparse_sorted mono_cmp ts) listed.1 in
      let below =
      and_parts (mono_uses_below 1000000 t.0)
      (list_all (λ (u : Mono × ℤ). mono_uses_below 1000000 u.0) ts) b in
      and_from (is_plain_term inner t) (list_all (is_plain_term inner) ts)
      (and_from (is_coefficient t.1) (list_all (is_plain_atom inner) (out-Mono t.0).atoms)
      (and_from (not (is_zero t.1)) (fits_i128 t.1) listed.0 fits.0)
      (mono_plain t.0 normal.0 below.0 (omega (arith, d))))
      (terms_plain ts normal.1 fits.1 others.1 below.1 (omega (arith, d)))

  normal_plain : (p : Body) → is_normal p ≡ true → uses_below 1000000 p ≡ true → body_depth p ≤ n
      → is_plain inner p ≡ true
  normal_plain p a b d =
      let terms = normal_terms p a in
      terms_plain (out-Body p).terms terms.keys terms.fits terms.listed
      (sym (below_is 1000000 p) ∙ b) (subst (λ k. k ≤ n) (body_depth_is p) d)

inside_plain : (n : ℕ) (p : Body) → is_normal p ≡ true → uses_below 1000000 p ≡ true
    → suc (body_depth p) ≤ n → is_plain_inside n p ≡ true
unfolding is_plain_inside
inside_plain zero p a b d = absurd (omega (arith, d))
inside_plain (suc n) p a b d =
    normal_plain (is_plain_inside n) n (inside_plain n) p a b (omega (arith, d))

-- a readable polynomial is a sum as it is read
pub poly_plain : (p : Body) → is_readable_poly p ≡ true → is_plain (is_plain_inside 64) p ≡ true
poly_plain p h =
    let parts = and_parts (is_poly p) (uses_below 1000000 p) h in
    let poly = and_parts (is_normal p) (is_small p) parts.0 in
    normal_plain (is_plain_inside 64) 64 (inside_plain 64) p poly.0 parts.1 (small_parts p poly.1).1

-- a sum that is read and is a polynomial is a readable one
pub plain_readable : (n : ℕ) (p : Body) → is_plain (is_plain_inside n) p ≡ true → is_poly p ≡ true
    → is_readable_poly p ≡ true
plain_readable n p h e =
    and_from (is_poly p) (uses_below 1000000 p) e
    (plain_below (is_plain_inside n) (inside_below n) p h)

pub as_sum : {bytes left : List ℕ} {p : Body} → BeginsWith polynomials bytes p left
    → BeginsWith (sums_nested 64) bytes p left
as_sum {bytes} {left} {p} b =
    record { in_range = poly_plain p b.in_range; text = b.text; over = b.over }

-- bytes begin with the text of at most one polynomial
pub polynomials_unambiguous : IsUnambiguous polynomials
polynomials_unambiguous bytes p q left right b c =
    plain_unambiguous 64 bytes p q left right (as_sum b) (as_sum c)

-- ---- what the sum that was read says

pub no_poly : (bytes : List ℕ) (at : ℕ) → Reads (sums_nested 64) bytes at None
    → Reads polynomials bytes at None
no_poly bytes at never = λ p left b. never p left (as_sum b)

pub not_normal : (bytes : List ℕ) (at : ℕ) {end : ℕ} {sum : Body}
    → StandsAt (sums_nested 64) bytes at sum end → (is_poly sum ≡ true → ⊥)
    → Reads polynomials bytes at None
not_normal bytes at {end} {sum} s no_poly = λ p left b.
    let same =
    plain_unambiguous 64 (drop at bytes) sum p (drop end bytes) left s.begins (as_sum b) in
    no_poly (ap is_poly same.0 ∙ (and_parts (is_poly p) (uses_below 1000000 p) b.in_range).0)

pub poly_stands : (bytes : List ℕ) (at : ℕ) {end : ℕ} {sum p : Body}
    → StandsAt (sums_nested 64) bytes at sum end → is_poly sum ≡ true → p ≡ sum
    → StandsAt polynomials bytes at p end
poly_stands bytes at {end} {sum} {p} s h is =
    subst (λ q. StandsAt polynomials bytes at q end) (sym is) (record {
      forward = s.forward;
      inside = s.inside;
      begins = record {
        in_range = plain_readable 64 sum s.begins.in_range h;
        text = s.begins.text;
        over = s.begins.over;
      };
    })
