-- One column more: the pairs that stay open hold, those that are closed are lower, and each pair is
-- one or the other.
use Rattle.std.proofs.Common.{◌≡◌, ◌∙◌, ap, sym, subst, refl, arith, ℕ, zero, suc, ◌⊎◌, inl, inr, true, false, ◌||◌, Option, Some, None, List, [], ◌∷◌, ◌++◌, length, set, slice_get, All}
use Rattle.std.proofs.lemmas.Bool.{ne_eqb}
use Rattle.std.proofs.lemmas.List.Elements.{All-head, All-tail}
use Rattle.std.proofs.lemmas.Option.{none-some, same_Some}
use Rattle.rx_pairs.specs.declared.pair.Pair.{Pair}
use Rattle.rx_pairs.specs.declared.pair_cert.PairCert.{PairCert}
use Rattle.rx_find_ranks.proofs.ClosingLaws.{close_count}
use Rattle.rx_find_ranks.proofs.TableLaws.{longer_column}
use Rattle.rx_find_ranks.specs.Closing.{close_all, closing}
use Rattle.rx_find_ranks.specs.Columns.{Column}
use Rattle.rx_find_ranks.specs.Tables.{IsLowerBy, IsOpenBy, IsSplit, has_number}
use Rattle.rx_find_ranks.specs.declared.open_pair.OpenPair.{OpenPair}

-- an element after one was set: it is that one, or another that was there
set_read : {A : Type 0} (xs : List A) (i k : ℕ) (x y : A) → slice_get (set xs i x) k ≡ Some y
    → ((k ≡ i) × (x ≡ y)) ⊎ ((k ≡ i → ⊥) × (slice_get xs k ≡ Some y))
set_read [] i k x y e = absurd (none-some y e)
set_read (z ∷ zs) zero zero x y e = inl (refl, same_Some x y e)
set_read (z ∷ zs) zero (suc k) x y e = inr ((λ same. omega (arith, same)), e)
set_read (z ∷ zs) (suc i) zero x y e = inr ((λ same. omega (arith, same)), e)
set_read (z ∷ zs) (suc i) (suc k) x y e = elim (set_read zs i k x y e) [
  | inl here ↦ inl (let same = here.0 in omega (arith, same), here.1)
  | inr there ↦ inr ((λ same. there.0 (omega (arith, same))), there.1)
]

module _ (pairs : List Pair) (columns : List Column) (column : ℕ) where
  abbrev AllLower : List (Option PairCert) → Type 0
  AllLower closed =
      (k : ℕ) (pair : Pair) (cert : PairCert) → slice_get pairs k ≡ Some pair → slice_get closed k ≡
      Some (Some cert) → IsLowerBy columns pair cert

  -- it is the pair with its number, and lower by the column
  abbrev pub IsClosing : OpenPair → Type 0
  IsClosing o =
      (slice_get pairs o.number ≡ Some o.pair) × IsLowerBy columns o.pair (closing column o)

  lower_one : (closed : List (Option PairCert)) (o : OpenPair) → AllLower closed → IsClosing o →
      AllLower (set closed o.number (Some (closing column o)))
  lower_one closed o all is k pair cert there e =
      elim (set_read closed o.number k (Some (closing column o)) (Some cert) e) [
        | inl here ↦
            let number = here.0 in
            let own : o.pair ≡ pair = same_Some o.pair pair
            (sym is.0 ∙ sym (ap (slice_get pairs) number) ∙ there) in
            subst (λ c. IsLowerBy columns pair c) (same_Some (closing column o) cert here.1)
            (subst (λ (p : Pair). IsLowerBy columns p (closing column o)) own is.1)
        | inr other ↦ all k pair cert there other.1
      ]

  pub lower_all : (closed : List (Option PairCert)) (os : List OpenPair) → AllLower closed →
      All IsClosing os → AllLower (close_all column closed os)
  lower_all closed [] all are = all
  lower_all closed (o ∷ os) all are =
      lower_all (set closed o.number (Some (closing column o))) os
      (lower_one closed o all (All-head IsClosing o os are)) (All-tail IsClosing o os are)

-- what isn't closed in the end wasn't before, and isn't among those that were closed
not_closed : (column : ℕ) (closed : List (Option PairCert)) (os : List OpenPair) (k : ℕ) →
    slice_get (close_all column closed os) k ≡ Some None
    → (slice_get closed k ≡ Some None) × (has_number k os ≡ false)
not_closed column closed [] k e = (e, refl)
not_closed column closed (o ∷ os) k e =
    let rest = not_closed column (set closed o.number (Some (closing column o))) os k e in
    elim (set_read closed o.number k (Some (closing column o)) None rest.0) [
      | inl here ↦ absurd (none-some (closing column o) (sym here.1))
      | inr other ↦ (other.1, (λ i. ne_eqb o.number k (λ same. other.0 (sym same)) i || rest.1 i))
    ]

-- with a column that holds at those that stay, and falls at those that are closed
pub split_more : (pairs : List Pair) (columns : List Column) (column : Column)
    (opens left moved : List OpenPair) (closed : List (Option PairCert))
    → IsSplit pairs columns opens closed → All (IsOpenBy pairs (columns ++ column ∷ [])) left →
    All (IsClosing pairs (columns ++ column ∷ []) (suc (length columns))) moved
    → ((k : ℕ) → has_number k opens ≡ true → has_number k moved ≡ false → has_number k left ≡ true)
    → IsSplit pairs (columns ++ column ∷ []) left (close_all (suc (length columns)) closed moved)
split_more pairs columns column opens left moved closed split stay go others = record {
  count = close_count (suc (length columns)) closed moved ∙ split.count;
  opened = stay;
  lower = lower_all pairs (columns ++ column ∷ []) (suc (length columns)) closed moved
      (λ k pair cert there e. longer_column columns column pair cert
      (split.lower k pair cert there e)) go;
  rest = λ k e.
      let was = not_closed (suc (length columns)) closed moved k e in
      others k (split.rest k was.0) was.1;
}
