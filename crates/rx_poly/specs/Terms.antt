-- Sums as lists of terms. A term is a key with its coefficient; in a sum that is listed, keys rise
-- and no coefficient is 0.
use Rattle.std.specs.Prelude.{Bool, true, not, ◌&&◌, if◌then◌else◌, Option, Some, None, List, [], ◌∷◌, map, ℤ, pos, ◌+ℤ◌, ◌*ℤ◌, neg_ℤ}
use Rattle.std.specs.List.{list_all}
use Rattle.std.specs.Ordering.{int_eq, is_lt}
use Rattle.std.specs.declared.cmp.Ordering.{Ordering}
use Rattle.std.specs.declared.cmp.Ordering.TheVariants.{Less, Equal, Greater}

-- whether the number is 0
abbrev pub is_zero : ℤ → Bool
is_zero c = int_eq c (pos 0)

-- an element and those after it; where there is none, none comes after it
abbrev pub first_and_rest : {A : Type 0} → Option A → List A → List A
first_and_rest None xs = []
first_and_rest (Some x) xs = x ∷ xs

module _ {K : Type 0} where
  -- the term in front of others, or these alone where its coefficient is 0
  abbrev pub cons_nonzero : K → ℤ → List (K × ℤ) → List (K × ℤ)
  cons_nonzero k c ts = if is_zero c then ts else (k, c) ∷ ts

  -- a term inserted into u ∷ us, by how its key compares to that of u; `further` is the term
  -- inserted into us
  abbrev pub insert_by : Ordering → K → ℤ → K × ℤ → List (K × ℤ) → List (K × ℤ) → List (K × ℤ)
  insert_by Less k c u us further = cons_nonzero k c (u ∷ us)
  insert_by Equal k c u us further = cons_nonzero k (c +ℤ u.1) us
  insert_by Greater k c u us further = u ∷ further

  -- a term inserted into a listed sum: at its place, or added to the coefficient that its key has
  abbrev pub insert_term : (K → K → Ordering) → K → ℤ → List (K × ℤ) → List (K × ℤ)
  insert_term R k c [] = cons_nonzero k c []
  insert_term R k c (u ∷ us) = insert_by (R k u.0) k c u us (insert_term R k c us)

  -- the sum of two listed sums, listed
  abbrev pub add_terms : (K → K → Ordering) → List (K × ℤ) → List (K × ℤ) → List (K × ℤ)
  add_terms R [] us = us
  add_terms R (t ∷ ts) us = insert_term R t.0 t.1 (add_terms R ts us)

  -- the key comes before the keys of all the terms
  abbrev pub is_before : (K → K → Ordering) → K → List (K × ℤ) → Bool
  is_before R k ts = list_all (λ u. is_lt (R k u.0)) ts

  -- each key comes before all keys after it, and no coefficient is 0
  abbrev pub is_sparse_sorted : (K → K → Ordering) → List (K × ℤ) → Bool
  is_sparse_sorted R [] = true
  is_sparse_sorted R (t ∷ ts) = not (is_zero t.1) && (is_before R t.0 ts && is_sparse_sorted R ts)

  -- the keys of a sum pass a test
  abbrev pub all_keys : (K → Bool) → List (K × ℤ) → Bool
  all_keys test ts = list_all (λ t. test t.0) ts

  -- a sum times a number, listed where the sum is
  abbrev pub times_number : ℤ → List (K × ℤ) → List (K × ℤ)
  times_number k [] = []
  times_number k (t ∷ ts) = cons_nonzero t.0 (t.1 *ℤ k) (times_number k ts)

  -- the same terms with their signs reversed
  abbrev pub negated : List (K × ℤ) → List (K × ℤ)
  negated ts = map (λ t. (t.0, neg_ℤ t.1)) ts
