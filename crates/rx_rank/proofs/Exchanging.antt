-- Exchanges by number.
use Rattle.std.proofs.Common.{◌≡◌, ◌∙◌, ap, sym, refl, arith, ℕ, zero, suc, ◌+◌, ◌-◌, ◌<◌, ◌≤◌, Some, List, [], ◌∷◌, ◌++◌, drop, get_or, length, slice_get}
use Rattle.std.proofs.lemmas.List.{length-map}
use Rattle.std.proofs.lemmas.Option.{slice_get-get_or}
use Rattle.rx_rank.specs.Ranking.{all_exchanges, exchanges_of}
use Rattle.rx_rank.specs.declared.exchange.Exchange.{Exchange}
use Rattle.rx_rank.proofs.Choosing.{mapped_place}
use Rattle.rx_rank.proofs.Walks.{next_from}

-- a place in the first list, and one past it
in_first : {A : Type 0} (xs ys : List A) (i : ℕ) → i < length xs → slice_get (xs ++ ys) i ≡
    slice_get xs i
in_first [] ys i h = absurd (omega (arith, h))
in_first (x ∷ xs) ys zero h = refl
in_first (x ∷ xs) ys (suc i) h = in_first xs ys i (omega (arith, h))

past_first : {A : Type 0} (xs ys : List A) (i k : ℕ) → k ≡ length xs + i → slice_get (xs ++ ys) k ≡
    slice_get ys i
past_first [] ys i k e = ap (slice_get ys) (omega (arith, e))
past_first (x ∷ xs) ys i zero e = absurd (omega (arith, e))
past_first (x ∷ xs) ys i (suc k) e = past_first xs ys i k (omega (arith, e))

module _ (anchors others : List ℕ) (i : ℕ) (inside : i < length anchors) (n : ℕ) where
  abbrev from : ℕ → List Exchange
  from k = all_exchanges (record { anchors = drop k anchors; others = others })

  abbrev here : List Exchange
  here = exchanges_of (get_or anchors i 0) others

  opened : from i ≡ here ++ from (i + 1)
  opened =
      ap (λ hs. all_exchanges (record { anchors = hs; others = others })) (next_from anchors i 0 inside)

  count : length here ≡ length others
  count = length-map others (λ g. record { anchor = get_or anchors i 0; other = g })

  -- the exchange with that number is one of the anchor at hand
  pub exchange_here : n < length others → slice_get (from i) n ≡
      Some (record { anchor = get_or anchors i 0; other = get_or others n 0 })
  exchange_here less =
      ap (λ es. slice_get es n) opened
      ∙ in_first here (from (i + 1)) n (omega (arith, less, count))
      ∙ mapped_place (λ g. record { anchor = get_or anchors i 0; other = g }) others n
      (get_or others n 0) (slice_get-get_or others n 0 less)

  -- it is one of a later anchor
  pub exchange_later : length others ≤ n → slice_get (from (i + 1)) (n - length others) ≡
      slice_get (from i) n
  exchange_later past =
      sym (past_first here (from (i + 1)) (n - length others) n (omega (arith, past, count)))
      ∙ ap (λ es. slice_get es n) (sym opened)
