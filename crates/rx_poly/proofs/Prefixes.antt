-- Beginnings of sorted atoms and of listed terms: sorted, listed and small as the whole is, and
-- what is added after them.
use Rattle.std.proofs.Common.{◌≡◌, ◌∙◌, ap, ℕ, ◌+◌, ◌≤◌, max, Bool, true, refl, sym, List, [], ◌∷◌, ◌++◌, ℤ, arith}
use Rattle.std.specs.Prelude.{nat_le, sum_by}
use Rattle.std.specs.List.{list_all}
use Rattle.std.specs.Ordering.{is_le, is_lt}
use Rattle.std.proofs.lemmas.Bool.{and_parts, and_from, le-leb}
use Rattle.std.proofs.lemmas.List.Folds.{list_all-append}
use Rattle.std.proofs.lemmas.List.Sums.{sum_by-append, sum_by-cons}
use Rattle.rx_poly.specs.Limits.{of_terms, of_atoms, all_fit, is_within, is_small, atom_size, mono_size, body_size, greatest, atom_depth, mono_depth, body_depth, fits_i128}
use Rattle.rx_poly.specs.Normal.{is_sorted}
use Rattle.rx_poly.specs.Order.{atom_cmp, mono_cmp}
use Rattle.rx_poly.specs.Products.{join_sorted}
use Rattle.rx_poly.specs.Terms.{add_terms, is_before, is_sparse_sorted}
use Rattle.rx_poly.proofs.Levels.{atoms-of_atoms, mono_size_is, mono_depth_is}
use Rattle.rx_poly.proofs.OrderLemmas.{atom_total, mono_total}
use Rattle.rx_poly.proofs.PolyLaws.{within_terms, size-of_terms, depth-of_terms}
use Rattle.rx_poly.proofs.Same.{same_mono}
use Rattle.rx_poly.proofs.SortedLaws.{join-left, sorted_parts}
use Rattle.rx_poly.proofs.TermLaws.{add-left, listed_parts, listed_from}
use Rattle.rx_poly.specs.declared.body.Atom.{Atom}
use Rattle.rx_poly.specs.declared.body.Mono.{Mono}

greatest-prefix : {X : Type 0} (f : X → ℕ) (xs ys : List X) → greatest f xs ≤ greatest f (xs ++ ys)
greatest-prefix f [] ys = omega arith
greatest-prefix f (x ∷ xs) ys = let rest = greatest-prefix f xs ys in omega (arith, rest)

-- the last element is no deeper than the deepest
pub greatest-last : {X : Type 0} (f : X → ℕ) (xs : List X) (x : X) → f x ≤ greatest f (xs ++ x ∷ [])
greatest-last f [] x = omega arith
greatest-last f (y ∷ ys) x = let rest = greatest-last f ys x in omega (arith, rest)

sum_by-prefix : {X : Type 0} (f : X → ℕ) (xs ys : List X) → sum_by f xs ≤ sum_by f (xs ++ ys)
sum_by-prefix f xs ys = let parts = sum_by-append f xs ys in omega (arith, parts)

passing-prefix : {X : Type 0} (p : X → Bool) (xs ys : List X) → list_all p (xs ++ ys) ≡ true →
    list_all p xs ≡ true
passing-prefix p xs ys h =
    (and_parts (list_all p xs) (list_all p ys) (sym (list_all-append p xs ys) ∙ h)).0

-- ---- atoms

-- atoms of a monomial that keeps the limits
pub record SmallAtoms (xs : List Atom) : Type 0 where
  pub sorted : is_sorted atom_cmp xs ≡ true
  pub size : 1 + sum_by atom_size xs ≤ 4096
  pub depth : greatest atom_depth xs ≤ 64

sorted-prefix : (xs ys : List Atom) → is_sorted atom_cmp (xs ++ ys) ≡ true → is_sorted atom_cmp xs ≡
    true
sorted-prefix [] ys h = refl
sorted-prefix (x ∷ xs) ys h =
    let p = and_parts (list_all (λ y. is_le (atom_cmp x y)) (xs ++ ys))
    (is_sorted atom_cmp (xs ++ ys)) h in
    and_from (list_all (λ y. is_le (atom_cmp x y)) xs) (is_sorted atom_cmp xs)
    (passing-prefix (λ y. is_le (atom_cmp x y)) xs ys p.0) (sorted-prefix xs ys p.1)

pub atoms-prefix : (xs ys : List Atom) → SmallAtoms (xs ++ ys) → SmallAtoms xs
atoms-prefix xs ys s =
    let size = sum_by-prefix atom_size xs ys in
    let depth = greatest-prefix atom_depth xs ys in
    record {
      sorted = sorted-prefix xs ys s.sorted;
      size = omega (arith, size, s.size);
      depth =
          omega (arith, depth, s.depth);
    }

-- an atom that comes after all others is joined to them at the end
pub join-last : (xs : List Atom) (y : Atom) → is_sorted atom_cmp (xs ++ y ∷ []) ≡ true →
    join_sorted atom_cmp xs (y ∷ []) ≡ xs ++ y ∷ []
join-last [] y h = refl
join-last (x ∷ xs) y h =
    let s = sorted_parts atom_cmp atom_total x (xs ++ y ∷ []) h in
    let before = and_parts (list_all (λ z. is_le (atom_cmp x z)) xs)
    (list_all (λ z. is_le (atom_cmp x z)) (y ∷ []))
    (sym (list_all-append (λ z. is_le (atom_cmp x z)) xs (y ∷ [])) ∙ s.first) in
    join-left atom_cmp atom_total x xs (y ∷ [])
    (record { first = before.0; rest = sorted-prefix xs (y ∷ []) s.rest }) before.1
    ∙ ap (λ zs. x ∷ zs) (join-last xs y s.rest)

-- one term keeps the limits where its coefficient and its atoms do
pub term_within : (xs : List Atom) (k : ℤ) → SmallAtoms xs → fits_i128 k ≡ true →
    is_within (of_terms ((of_atoms xs, k) ∷ [])) ≡ true
term_within xs k s f =
    let ts = (of_atoms xs, k) ∷ [] in
    let one : mono_size (of_atoms xs) ≡ 1 + sum_by atom_size xs = mono_size_is (of_atoms xs) ∙
    ap (λ ys. 1 + sum_by atom_size ys) (atoms-of_atoms xs) in
    let deep : mono_depth (of_atoms xs) ≡ greatest atom_depth xs = mono_depth_is (of_atoms xs) ∙
    ap (greatest atom_depth) (atoms-of_atoms xs) in
    let size : body_size (of_terms ts) ≡ mono_size (of_atoms xs) + 0 = size-of_terms ts ∙
    sum_by-cons (λ (t : Mono × ℤ). mono_size t.0) (of_atoms xs, k) [] in
    let depth : body_depth (of_terms ts) ≡ max (mono_depth (of_atoms xs)) 0 = depth-of_terms ts in
    within_terms ts ∙ and_from (all_fit ts) (is_small (of_terms ts))
    (and_from (fits_i128 k) true f refl)
    (and_from (nat_le (body_size (of_terms ts)) 4096) (nat_le (body_depth (of_terms ts)) 64)
    (le-leb (body_size (of_terms ts)) 4096 (omega (arith, size, one, s.size)))
    (le-leb (body_depth (of_terms ts)) 64 (omega (arith, depth, deep, s.depth))))

-- ---- terms

-- terms of a polynomial
pub record SmallTerms (ts : List (Mono × ℤ)) : Type 0 where
  pub listed : is_sparse_sorted mono_cmp ts ≡ true
  pub fits : all_fit ts ≡ true
  pub size : sum_by (λ (t : Mono × ℤ). mono_size t.0) ts ≤ 4096
  pub depth : greatest (λ (t : Mono × ℤ). mono_depth t.0) ts ≤ 64

listed-prefix : (ts us : List (Mono × ℤ)) → is_sparse_sorted mono_cmp (ts ++ us) ≡ true →
    is_sparse_sorted mono_cmp ts ≡ true
listed-prefix [] us h = refl
listed-prefix (t ∷ ts) us h =
    let l = listed_parts mono_cmp mono_total same_mono t (ts ++ us) h in
    listed_from mono_cmp mono_total same_mono t ts (record {
      nonzero = l.nonzero;
      before = passing-prefix (λ u. is_lt (mono_cmp t.0 u.0)) ts us l.before;
      rest = listed-prefix ts us l.rest;
    })

pub terms-prefix : (ts us : List (Mono × ℤ)) → SmallTerms (ts ++ us) → SmallTerms ts
terms-prefix ts us s =
    let size = sum_by-prefix (λ (t : Mono × ℤ). mono_size t.0) ts us in
    let depth = greatest-prefix (λ (t : Mono × ℤ). mono_depth t.0) ts us in
    record {
      listed = listed-prefix ts us s.listed;
      fits = passing-prefix (λ t. fits_i128 t.1) ts us s.fits;
      size = omega (arith, size, s.size);
      depth = omega (arith, depth, s.depth);
    }

-- a term that comes after all others is added to them at the end
pub add-last : (ts : List (Mono × ℤ)) (u : Mono × ℤ) → is_sparse_sorted mono_cmp (ts ++ u ∷ []) ≡
    true →
    add_terms mono_cmp ts (u ∷ []) ≡ ts ++ u ∷ []
add-last [] u h = refl
add-last (t ∷ ts) u h =
    let l = listed_parts mono_cmp mono_total same_mono t (ts ++ u ∷ []) h in
    let before = and_parts (is_before mono_cmp t.0 ts) (is_before mono_cmp t.0 (u ∷ []))
    (sym (list_all-append (λ v. is_lt (mono_cmp t.0 v.0)) ts (u ∷ [])) ∙ l.before) in
    add-left mono_cmp mono_total same_mono t ts (u ∷ [])
    (record { nonzero = l.nonzero; before = before.0; rest = listed-prefix ts (u ∷ []) l.rest })
    before.1
    ∙ ap (λ us. t ∷ us) (add-last ts u l.rest)

-- terms keep the limits together where they are those of a polynomial
pub terms_within : (ts : List (Mono × ℤ)) → SmallTerms ts → is_within (of_terms ts) ≡ true
terms_within ts s =
    let size = size-of_terms ts in
    let depth = depth-of_terms ts in
    within_terms ts ∙ and_from (all_fit ts) (is_small (of_terms ts)) s.fits
    (and_from (nat_le (body_size (of_terms ts)) 4096) (nat_le (body_depth (of_terms ts)) 64)
    (le-leb (body_size (of_terms ts)) 4096 (omega (arith, size, s.size)))
    (le-leb (body_depth (of_terms ts)) 64 (omega (arith, depth, s.depth))))
