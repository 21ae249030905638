-- The rows that variables are 32-bit integers, with one variable more.
use Rattle.std.proofs.Common.{◌≡◌, ◌∙◌, ap, sym, ℕ, zero, suc, ◌+◌, List, [], ◌∷◌, ◌++◌, append_assoc, arith}
use Rattle.std.specs.List.{flat_map, range_with_len}
use Rattle.rx_row.specs.Membership.{pushed}
use Rattle.rx_row.specs.declared.row.Row.{Row}
use Rattle.rx_code.specs.Bounds.{int_rows, joined_rows}

-- rows joined one list after the other
joined-append : (rows xs ys : List Row) →
    joined_rows rows (xs ++ ys) ≡ joined_rows (joined_rows rows xs) ys
joined-append rows [] ys = λ i. joined_rows rows ys
joined-append rows (x ∷ xs) ys = joined-append (pushed rows x) xs ys

flat_map-append : (xs ys : List ℕ) →
    flat_map int_rows (xs ++ ys) ≡ flat_map int_rows xs ++ flat_map int_rows ys
flat_map-append [] ys = λ i. flat_map int_rows ys
flat_map-append (x ∷ xs) ys =
    ap (λ rs. int_rows x ++ rs) (flat_map-append xs ys)
    ∙ sym (append_assoc (int_rows x) (flat_map int_rows xs) (flat_map int_rows ys))

range-more : (from n : ℕ) → range_with_len from (n + 1) ≡ range_with_len from n ++ (from + n) ∷ []
range-more from n = ap (range_with_len from) (is n) ∙ more from n
  where
    is : (k : ℕ) → k + 1 ≡ suc k
    is k = omega arith

    none : (k : ℕ) → k ≡ k + 0
    none k = omega arith

    moved : (k m : ℕ) → (k + 1) + m ≡ k + suc m
    moved k m = omega arith

    more : (from n : ℕ) → range_with_len from (suc n) ≡ range_with_len from n ++ (from + n) ∷ []
    more from zero = ap (λ k. k ∷ []) (none from)
    more from (suc n) =
        ap (λ ks. from ∷ ks) (more (from + 1) n
        ∙ ap (λ k. range_with_len (from + 1) n ++ k ∷ []) (moved from n))

-- in a loop that has bounded n variables
pub one_more : (rows : List Row) (n : ℕ) →
    joined_rows rows (flat_map int_rows (range_with_len 0 (n + 1)))
    ≡ joined_rows (joined_rows rows (flat_map int_rows (range_with_len 0 n))) (int_rows n)
one_more rows n =
    ap (λ ks. joined_rows rows (flat_map int_rows ks))
    (range-more 0 n ∙ ap (λ k. range_with_len 0 n ++ k ∷ []) (none n))
    ∙ ap (joined_rows rows) (flat_map-append (range_with_len 0 n) (n ∷ []))
    ∙ joined-append rows (flat_map int_rows (range_with_len 0 n)) (int_rows n)
  where
    none : (k : ℕ) → 0 + k ≡ k
    none k = omega arith
