-- Laws of products of monomials and sums: their order, their value, and that they stay normal.
use Rattle.std.proofs.Common.{◌≡◌, ◌∙◌, ap, subst, ℕ, zero, suc, true, false, ◌&&◌, refl, sym, List, [], ◌∷◌, ℤ, pos, negsuc, ◌+ℤ◌, ◌*ℤ◌, arith}
use Rattle.std.proofs.lemmas.Int.{ints}
use Rattle.std.proofs.lemmas.Bool.{and_from, and_parts, false_from_ne_true}
use Rattle.std.specs.List.{list_all}
use Rattle.std.specs.Ordering.{is_lt}
use lib.IntN.{*ℤ_comm, +ℤ_assoc}
use Rattle.rx_plain.proofs.Integers.{zero-mul-int, zero-add-int, add-zero-int, mul-zero-int, mul-assoc-int, mul-add-int, add-mul-int}
use Rattle.rx_plain.specs.Graded.{graded_cmp}
use Rattle.rx_poly.specs.Limits.{of_terms, of_atoms, all_fit}
use Rattle.rx_poly.specs.Normal.{is_sorted, is_normal_atom, is_normal_mono, is_normal, is_poly}
use Rattle.rx_poly.specs.Order.{atom_cmp, mono_cmp}
use Rattle.rx_poly.specs.Products.{join_sorted, mono_times, term_product, sum_of_products, body_product}
use Rattle.rx_poly.specs.Terms.{is_zero, add_terms, is_before, is_sparse_sorted, all_keys}
use Rattle.rx_poly.specs.Value.{sum_terms, product_of, atom_value, mono_value, value}
use Rattle.rx_poly.proofs.Levels.{atoms-of_atoms, mono_value_is, value_is, is_normal_mono_is}
use Rattle.rx_poly.proofs.OrderLemmas.{atom_total, mono_total, mono_cmp_is}
use Rattle.rx_poly.proofs.PolyLaws.{NormalTerms, poly_terms, normal_of_terms, value-of_terms}
use Rattle.rx_poly.proofs.Same.{same_mono}
use Rattle.rx_poly.proofs.SortedLaws.{product-join, all-join, sorted-join, graded-join}
use Rattle.rx_poly.proofs.TermLaws.{listed_parts, listed_from, sum-add, zero_is}
use Rattle.rx_poly.specs.declared.body.Atom.{Atom}
use Rattle.rx_poly.specs.declared.body.Mono.{Mono, out-Mono}
use Rattle.rx_poly.specs.declared.body.Body.{Body, out-Body}

-- ---- two monomials

-- a product has the product as value
pub value-mono_times : (a : ℕ → ℤ) (m n : Mono) → mono_value a (mono_times m n) ≡
    mono_value a m *ℤ mono_value a n
value-mono_times a m n =
    mono_value_is a (mono_times m n)
    ∙ ap (product_of (atom_value a)) (atoms-of_atoms
    (join_sorted atom_cmp (out-Mono m).atoms (out-Mono n).atoms))
    ∙ product-join atom_cmp (atom_value a) (out-Mono m).atoms (out-Mono n).atoms
    ∙ (λ i. sym (mono_value_is a m) i *ℤ sym (mono_value_is a n) i)

-- a common factor doesn't change the order
pub cmp-mono_times : (m x y : Mono) → mono_cmp (mono_times m x) (mono_times m y) ≡ mono_cmp x y
cmp-mono_times m x y =
    mono_cmp_is (mono_times m x) (mono_times m y)
    ∙ (λ i. graded_cmp atom_cmp (atoms-of_atoms
    (join_sorted atom_cmp (out-Mono m).atoms (out-Mono x).atoms) i)
    (atoms-of_atoms (join_sorted atom_cmp (out-Mono m).atoms (out-Mono y).atoms) i))
    ∙ graded-join atom_cmp atom_total (out-Mono m).atoms (out-Mono x).atoms (out-Mono y).atoms
    ∙ sym (mono_cmp_is x y)

pub record NormalAtoms (xs : List Atom) : Type 0 where
  pub atoms : list_all is_normal_atom xs ≡ true
  pub sorted : is_sorted atom_cmp xs ≡ true

pub normal_atoms : (m : Mono) → is_normal_mono m ≡ true → NormalAtoms (out-Mono m).atoms
normal_atoms m h =
    let p = and_parts (list_all is_normal_atom (out-Mono m).atoms)
    (is_sorted atom_cmp (out-Mono m).atoms) (sym (is_normal_mono_is m) ∙ h) in
    record { atoms = p.0; sorted = p.1 }

pub normal_of_atoms : (xs : List Atom) → NormalAtoms xs → is_normal_mono (of_atoms xs) ≡ true
normal_of_atoms xs n =
    is_normal_mono_is (of_atoms xs) ∙ ap (λ ys. list_all is_normal_atom ys && is_sorted atom_cmp ys)
    (atoms-of_atoms xs)
    ∙ and_from (list_all is_normal_atom xs) (is_sorted atom_cmp xs) n.atoms n.sorted

-- a product of normal monomials is normal
pub normal-mono_times : (m n : Mono) → is_normal_mono m ≡ true → is_normal_mono n ≡ true →
    is_normal_mono (mono_times m n) ≡ true
normal-mono_times m n h g =
    let x = normal_atoms m h in
    let y = normal_atoms n g in
    normal_of_atoms _ (record {
      atoms =
          all-join atom_cmp is_normal_atom (out-Mono m).atoms (out-Mono n).atoms x.atoms y.atoms;
      sorted = sorted-join atom_cmp atom_total (out-Mono m).atoms (out-Mono n).atoms y.sorted;
    })

-- ---- one term times a sum

before-term_product : (t : Mono × ℤ) (k : Mono) (us : List (Mono × ℤ)) → is_before mono_cmp k us ≡
    true →
    is_before mono_cmp (mono_times t.0 k) (term_product t us) ≡ true
before-term_product t k [] h = refl
before-term_product t k (u ∷ us) h =
    let p = and_parts (is_lt (mono_cmp k u.0)) (is_before mono_cmp k us) h in
    and_from (is_lt (mono_cmp (mono_times t.0 k) (mono_times t.0 u.0)))
    (is_before mono_cmp (mono_times t.0 k) (term_product t us))
    (ap is_lt (cmp-mono_times t.0 k u.0) ∙ p.0) (before-term_product t k us p.1)

pub nonzero : (c : ℤ) → is_zero c ≡ false → c ≡ pos 0 → ⊥
nonzero c h e = let k : true ≡ false = ap is_zero (sym e) ∙ h in cc

no_zero : (c d : ℤ) → (c ≡ pos 0 → ⊥) → (d ≡ pos 0 → ⊥) → c *ℤ d ≡ pos 0 → ⊥
no_zero (pos zero) d h g e = h refl
no_zero (pos (suc m)) (pos zero) h g e = g refl
no_zero (pos (suc m)) (pos (suc n)) h g e = omega (arith, ints)
no_zero (pos (suc m)) (negsuc n) h g e = omega (arith, ints)
no_zero (negsuc m) (pos zero) h g e = g refl
no_zero (negsuc m) (pos (suc n)) h g e = omega (arith, ints)
no_zero (negsuc m) (negsuc n) h g e = omega (arith, ints)

-- a product of two numbers that are not 0 is not 0
pub nonzero-mul : (c d : ℤ) → is_zero c ≡ false → is_zero d ≡ false → is_zero (c *ℤ d) ≡ false
nonzero-mul c d h g =
    false_from_ne_true (is_zero (c *ℤ d)) (λ e. no_zero c d (nonzero c h) (nonzero d g) (zero_is (c *ℤ d) e))

pub listed-term_product : (t : Mono × ℤ) (us : List (Mono × ℤ)) → is_zero t.1 ≡ false →
    is_sparse_sorted mono_cmp us ≡ true → is_sparse_sorted mono_cmp (term_product t us) ≡ true
listed-term_product t [] z h = refl
listed-term_product t (u ∷ us) z h =
    let l = listed_parts mono_cmp mono_total same_mono u us h in
    listed_from mono_cmp mono_total same_mono (mono_times t.0 u.0, t.1 *ℤ u.1) (term_product t us)
    (record {
      nonzero = nonzero-mul t.1 u.1 z l.nonzero;
      before = before-term_product t u.0 us l.before;
      rest = listed-term_product t us z l.rest;
    })

pub keys-term_product : (t : Mono × ℤ) (us : List (Mono × ℤ)) → is_normal_mono t.0 ≡ true →
    all_keys is_normal_mono us ≡ true → all_keys is_normal_mono (term_product t us) ≡ true
keys-term_product t [] h g = refl
keys-term_product t (u ∷ us) h g =
    let p = and_parts (is_normal_mono u.0) (all_keys is_normal_mono us) g in
    and_from (is_normal_mono (mono_times t.0 u.0)) (all_keys is_normal_mono (term_product t us))
    (normal-mono_times t.0 u.0 h p.0) (keys-term_product t us h p.1)

-- the middle two of four factors change places
cross_factors : (c d x y : ℤ) → (c *ℤ d) *ℤ (x *ℤ y) ≡ (c *ℤ x) *ℤ (d *ℤ y)
cross_factors c d x y =
    mul-assoc-int c d (x *ℤ y) ∙ ap (λ n. c *ℤ n)
    (sym (mul-assoc-int d x y) ∙ ap (λ n. n *ℤ y) (*ℤ_comm d x) ∙ mul-assoc-int x d y) ∙
    sym (mul-assoc-int c x (d *ℤ y))

-- one term times a sum has the product as value
pub sum-term_product : (a : ℕ → ℤ) (t : Mono × ℤ) (us : List (Mono × ℤ)) →
    sum_terms (mono_value a) (term_product t us) ≡
    (t.1 *ℤ mono_value a t.0) *ℤ sum_terms (mono_value a)
    us
sum-term_product a t [] = sym (mul-zero-int (t.1 *ℤ mono_value a t.0))
sum-term_product a t (u ∷ us) =
    (λ i. (t.1 *ℤ u.1) *ℤ value-mono_times a t.0 u.0 i +ℤ sum-term_product a t us i)
    ∙ ap (λ n. n +ℤ (t.1 *ℤ mono_value a t.0) *ℤ sum_terms (mono_value a) us)
    (cross_factors t.1 u.1 (mono_value a t.0) (mono_value a u.0))
    ∙ sym (mul-add-int (t.1 *ℤ mono_value a t.0) (u.1 *ℤ mono_value a u.0)
    (sum_terms (mono_value a) us))

-- a term that isn't 0 times a polynomial is normal
pub scaled_normal : (t : Mono × ℤ) (p : Body) {ts us : List (Mono × ℤ)} → is_normal_mono t.0 ≡
    true → is_zero t.1 ≡ false → is_poly p ≡ true → ts ≡ (out-Body p).terms → us ≡
    term_product t ts →
    all_fit (term_product t ts) ≡ true → is_normal (of_terms us) ≡ true
scaled_normal t p {ts} {us} k z h is made f =
    let n = subst NormalTerms (sym is) (poly_terms p h) in
    ap (λ vs. is_normal (of_terms vs)) made
    ∙ normal_of_terms (term_product t ts) (record {
      keys = keys-term_product t ts k n.keys;
      fits = f;
      listed =
          listed-term_product t ts z n.listed;
    })

-- ---- the running sum

pub sum-sum_of_products : (a : ℕ → ℤ) (sum ts us : List (Mono × ℤ)) →
    sum_terms (mono_value a) (sum_of_products sum ts us) ≡
    sum_terms (mono_value a) sum +ℤ sum_terms (mono_value a) ts *ℤ sum_terms (mono_value a) us
sum-sum_of_products a sum [] us =
    let f = sum_terms (mono_value a) in
    sym (ap (λ n. f sum +ℤ n) (zero-mul-int (f us)) ∙ add-zero-int (f sum))
sum-sum_of_products a sum (t ∷ ts) us =
    let f = sum_terms (mono_value a) in
    sum-sum_of_products a (add_terms mono_cmp sum (term_product t us)) ts us
    ∙ ap (λ n. n +ℤ f ts *ℤ f us) (sum-add (mono_value a) mono_cmp same_mono sum (term_product t us)
    ∙
    ap (λ n. f sum +ℤ n) (sum-term_product a t us))
    ∙ +ℤ_assoc (f sum) ((t.1 *ℤ mono_value a t.0) *ℤ f us) (f ts *ℤ f us)
    ∙ ap (λ n. f sum +ℤ n) (sym (add-mul-int (t.1 *ℤ mono_value a t.0) (f ts) (f us)))

-- the product of two polynomials has the product as value
pub value-body_product : (a : ℕ → ℤ) (p q : Body) → value a (body_product p q) ≡
    value a p *ℤ value a q
value-body_product a p q =
    value-of_terms a (sum_of_products [] (out-Body p).terms (out-Body q).terms)
    ∙ sum-sum_of_products a [] (out-Body p).terms (out-Body q).terms
    ∙ zero-add-int (sum_terms (mono_value a) (out-Body p).terms *ℤ sum_terms (mono_value a)
    (out-Body q).terms)
    ∙ (λ i. sym (value_is a p) i *ℤ sym (value_is a q) i)
