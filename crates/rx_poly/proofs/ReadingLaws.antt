-- What is read from a polynomial: the variable that it is, and coefficients, looked for from the
-- front.
use Rattle.std.proofs.Common.{◌≡◌, ◌↔◌, IsTrue, ◌∙◌, ap, subst, ℕ, suc, ◌+◌, ◌<◌, ◌≤◌, Bool, true, false, ◌&&◌, if◌then◌else◌, refl, sym, Option, Some, None, List, [], ◌∷◌, length, drop, get_or, drop_of_length-le, add-one, ℤ, pos}
use Rattle.std.proofs.Math.Seq.{drop-cons}
use Rattle.std.proofs.lemmas.Bool.{and_parts, and_from}
use Rattle.std.proofs.lemmas.Option.{same_Some}
use Rattle.std.specs.Cmp.{signed_Decides}
use Rattle.std.specs.Ordering.{int_eq, is_lt}
use Rattle.std.specs.declared.cmp.Ordering.{Ordering}
use Rattle.std.specs.declared.cmp.Ordering.TheVariants.{Less, Equal, Greater}
use Rattle.rx_poly.proofs.Emptiness.{empty_is}
use Rattle.rx_poly.specs.Constants.{variable}
use Rattle.rx_poly.specs.Limits.{of_atoms}
use Rattle.rx_poly.specs.Normal.{is_empty, is_poly}
use Rattle.rx_poly.specs.Order.{mono_cmp}
use Rattle.rx_poly.specs.Reading.{coefficient, found, variable_of, variable_of_atom, variable_of_atoms}
use Rattle.rx_poly.specs.Terms.{is_before, is_sparse_sorted}
use Rattle.rx_poly.proofs.Levels.{atoms-of_atoms, terms-of_terms}
use Rattle.rx_poly.proofs.OrderLemmas.{mono_total, reversed_itself}
use Rattle.rx_poly.proofs.PolyLaws.{poly_terms}
use Rattle.rx_poly.proofs.Same.{same_mono}
use Rattle.rx_poly.proofs.TermLaws.{lt_is, before_trans, listed_parts}
use Rattle.rx_poly.specs.declared.body.Atom.{Atom, Atom-F, out-Atom, roll-Atom, roll-out-Atom}
use Rattle.rx_poly.specs.declared.body.Atom.TheVariants.{Var, outs-Var, rolls-Var}
use Rattle.rx_poly.specs.declared.body.Mono.{Mono, out-Mono, roll-Mono, roll-out-Mono}
use Rattle.rx_poly.specs.declared.body.Body.{Body, out-Body, roll-Body, roll-out-Body}

-- ---- the variable that it is

-- an atom that is one
atom_is : (x : Atom) (n : ℕ) → variable_of_atom (out-Atom x) ≡ Some n → x ≡ Var n
atom_is x n e = sym (roll-out-Atom x) ∙ by (out-Atom x) e
  where
    by : (y : Atom-F Atom Body Mono) → variable_of_atom y ≡ Some n → roll-Atom y ≡ Var n
    by (Atom-F.Var m) e = rolls-Var m ∙ ap Var (same_Some m n e)
    by (Atom-F.Div p q) e = cc
    by (Atom-F.Mod p q) e = cc

chosen : {X : Type 0} (b : Bool) (o : Option X) (x : X) → (if b then o else None) ≡ Some x →
    (b ≡ true) × (o ≡ Some x)
chosen true o x e = (refl, e)
chosen false o x e = cc

atoms_are : (xs : List Atom) (n : ℕ) → variable_of_atoms xs ≡ Some n → xs ≡ Var n ∷ []
atoms_are [] n e = cc
atoms_are (x ∷ xs) n e =
    let c = chosen (is_empty xs) (variable_of_atom (out-Atom x)) n e in
    λ i. atom_is x n c.1 i ∷ empty_is xs c.0 i

-- a monomial that is one
pub mono_is : (m : Mono) (n : ℕ) → variable_of_atoms (out-Mono m).atoms ≡ Some n → m ≡
    of_atoms (Var n ∷ [])
mono_is m n e =
    sym (roll-out-Mono m) ∙ (λ i. roll-Mono (record { atoms = atoms_are (out-Mono m).atoms n e i }))

pub mono_found : (n : ℕ) → variable_of_atoms (out-Mono (of_atoms (Var n ∷ []))).atoms ≡ Some n
mono_found n = ap variable_of_atoms (atoms-of_atoms (Var n ∷ [])) ∙ ap variable_of_atom (outs-Var n)

-- a monomial is a variable exactly where that is read from it
pub mono_is_variable : (m : Mono) (n : ℕ) {o : Option ℕ} → o ≡
    variable_of_atoms (out-Mono m).atoms → (o ≡ Some n) ↔ (m ≡ of_atoms (Var n ∷ []))
mono_is_variable m n is = (
  λ e. mono_is m n (sym is ∙ e),
  λ e. is ∙ ap (λ k. variable_of_atoms (out-Mono k).atoms) e ∙
      mono_found n,
)

terms_are : (ts : List (Mono × ℤ)) (n : ℕ) → variable_of ts ≡ Some n → ts ≡
    (of_atoms (Var n ∷ []), pos 1) ∷ []
terms_are [] n e = cc
terms_are (t ∷ ts) n e =
    let c = chosen (is_empty ts && int_eq t.1 (pos 1)) (variable_of_atoms (out-Mono t.0).atoms) n e
    in
    let b = and_parts (is_empty ts) (int_eq t.1 (pos 1)) c.0 in
    λ i. (mono_is t.0 n c.1 i, (signed_Decides t.1 (pos 1)).0 b.1 i) ∷ empty_is ts b.0 i

-- a polynomial is a variable exactly where that is read from it
pub is_variable : (b : Body) (n : ℕ) {o : Option ℕ} → o ≡ variable_of (out-Body b).terms →
    (o ≡ Some n) ↔ (b ≡ variable n)
is_variable b n is = (
  λ e. sym (roll-out-Body b) ∙ (λ i. roll-Body
      (record { terms = terms_are (out-Body b).terms n (sym is ∙ e) i })),
  λ e. is ∙ ap (λ (p : Body). variable_of (out-Body p).terms) e ∙
      ap variable_of (terms-of_terms ((of_atoms (Var n ∷ []), pos 1) ∷ [])) ∙ mono_found n,
)

-- ---- coefficients

-- a monomial that comes before all of a sum has the coefficient 0 there
pub absent : (k : Mono) (ts : List (Mono × ℤ)) → is_before mono_cmp k ts ≡ true → coefficient k ts ≡
    pos 0
absent k [] h = refl
absent k (t ∷ ts) h =
    let p = and_parts (is_lt (mono_cmp k t.0)) (is_before mono_cmp k ts) h in
    ap (λ r. found r t.1 (coefficient k ts)) (lt_is (mono_cmp k t.0) p.0) ∙ absent k ts p.1

pub itself : (k : Mono) → mono_cmp k k ≡ Equal
itself k = reversed_itself (mono_cmp k k) (mono_total.antisymm k k)

-- a term of the monomial has its coefficient
taken : (k : Mono) (t : Mono × ℤ) (ts : List (Mono × ℤ)) → t.0 ≡ k → coefficient k (t ∷ ts) ≡ t.1
taken k t ts e = ap (λ r. found r t.1 (coefficient k ts)) (ap (mono_cmp k) e ∙ itself k)

-- another term leaves it to the rest
skipped : (k : Mono) (t : Mono × ℤ) (ts : List (Mono × ℤ)) → (t.0 ≡ k → ⊥) →
    coefficient k (t ∷ ts) ≡ coefficient k ts
skipped k t ts n = by (mono_cmp k t.0) refl
  where
    by : (r : Ordering) → mono_cmp k t.0 ≡ r → found (mono_cmp k t.0) t.1 (coefficient k ts) ≡
        coefficient k ts
    by Less e = ap (λ r. found r t.1 (coefficient k ts)) e
    by Equal e = absurd (n (sym (same_mono k t.0 e)))
    by Greater e = ap (λ r. found r t.1 (coefficient k ts)) e

module _ (k : Mono) (ts : List (Mono × ℤ)) (i : ℕ) {t : Mono × ℤ} (h : i < length ts)
    (is : t ≡ get_or ts i t) (s : coefficient k (drop i ts) ≡ coefficient k ts) where
  opened : coefficient k (t ∷ drop (suc i) ts) ≡ coefficient k ts
  opened =
      ap (coefficient k) (sym (drop-cons ts i t h ∙ ap (λ u. u ∷ drop (suc i) ts) (sym is))) ∙ s

  pub here : t.0 ≡ k → t.1 ≡ coefficient k ts
  here e = sym (taken k t (drop (suc i) ts) e) ∙ opened

  pub not_here : {b : Bool} → (IsTrue b ↔ (t.0 ≡ k)) → b ≡ false → coefficient k (drop (i + 1) ts) ≡
      coefficient k ts
  not_here {b} tells f =
      let n : t.0 ≡ k → ⊥ = λ e. let told : b ≡ true = tells.1 e in cc in
      ap (λ m. coefficient k (drop m ts)) (add-one i) ∙ sym (skipped k t (drop (suc i) ts) n) ∙
      opened

-- nothing is left
pub nowhere : (k : Mono) (ts : List (Mono × ℤ)) (i : ℕ) → length ts ≤ i →
    coefficient k (drop i ts) ≡ coefficient k ts → pos 0 ≡ coefficient k ts
nowhere k ts i h s = ap (coefficient k) (sym (drop_of_length-le ts h)) ∙ s

-- ---- the same in a listed sum, where a later monomial ends the search

-- the terms that are left are listed, and decide
pub record Seeking (k : Mono) (rest whole : List (Mono × ℤ)) : Type 0 where
  pub listed : is_sparse_sorted mono_cmp rest ≡ true
  pub same : coefficient k rest ≡ coefficient k whole

pub begin : (k : Mono) (b : Body) {ts : List (Mono × ℤ)} → ts ≡ (out-Body b).terms → is_poly b ≡
    true → Seeking k (drop 0 ts) ts
begin k b is h =
    record { listed = ap (is_sparse_sorted mono_cmp) is ∙ (poly_terms b h).listed; same = refl }

module _ (k : Mono) (ts : List (Mono × ℤ)) (i : ℕ) {t : Mono × ℤ} (h : i < length ts)
    (is : t ≡ get_or ts i t) (s : Seeking k (drop i ts) ts) where
  rest_is : drop i ts ≡ t ∷ drop (suc i) ts
  rest_is = drop-cons ts i t h ∙ ap (λ u. u ∷ drop (suc i) ts) (sym is)

  all_listed : is_sparse_sorted mono_cmp (t ∷ drop (suc i) ts) ≡ true
  all_listed = ap (is_sparse_sorted mono_cmp) (sym rest_is) ∙ s.listed

  pub later : mono_cmp k t.0 ≡ Less → pos 0 ≡ coefficient k ts
  later e =
      let l = listed_parts mono_cmp mono_total same_mono t (drop (suc i) ts) all_listed in
      let before = and_from (is_lt (mono_cmp k t.0)) (is_before mono_cmp k (drop (suc i) ts))
      (ap is_lt e) (before_trans mono_cmp mono_total same_mono k t.0 (drop (suc i) ts) e
      l.before) in
      sym (absent k (t ∷ drop (suc i) ts) before) ∙ opened k ts i h is s.same

  pub reached : mono_cmp k t.0 ≡ Equal → t.1 ≡ coefficient k ts
  reached e = here k ts i h is s.same (sym (same_mono k t.0 e))

  pub earlier : mono_cmp k t.0 ≡ Greater → Seeking k (drop (i + 1) ts) ts
  earlier e = subst (λ n. Seeking k (drop n ts) ts) (sym (add-one i)) (record {
    listed = (listed_parts mono_cmp mono_total same_mono t (drop (suc i) ts) all_listed).rest;
    same =
        ap (λ r. found r t.1 (coefficient k (drop (suc i) ts))) (sym e) ∙ opened k ts i h is s.same;
  })
