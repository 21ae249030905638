-- Ranks against symbols: one turn of the walk.
use Rattle.std.proofs.Common.{◌≡◌, ◌∙◌, ap, sym, refl, arith, cond, ℕ, ◌+◌, ◌≤◌, ◌<◌, true, false, Option, Some, None, List, length, drop, slice_get}
use Rattle.std.proofs.lemmas.Option.{slice_get_past}
use Rattle.rx_poly.specs.declared.body.Body.{Body}
use Rattle.rx_term.proofs.Places.{from_end, from_nowhere, from_place}
use Rattle.rx_term.specs.declared.rule_set.SymInfo.{SymInfo}
use Rattle.rx_pairs.specs.Ranks.{bad_from, is_rank}

module _ (width f : ℕ) (infos : List SymInfo) (ranks : List (List Body)) where
  -- a rank of a symbol that isn't there is bad
  pub no_symbol : (rank : List Body) → slice_get ranks f ≡ Some rank → slice_get infos f ≡ None →
      bad_from width f (drop f infos) (drop f ranks) ≡ Some f
  no_symbol rank next none =
      (λ i. bad_from width f (from_nowhere infos f none i) (from_place ranks f rank next i))

  module _ (info : SymInfo) (there : slice_get infos f ≡ Some info) where
    -- a symbol without a rank is
    pub no_rank : slice_get ranks f ≡ None → bad_from width f (drop f infos) (drop f ranks) ≡ Some f
    no_rank none =
        (λ i. bad_from width f (from_place infos f info there i) (from_nowhere ranks f none i))

    module _ (rank : List Body) (next : slice_get ranks f ≡ Some rank) where
      opened : bad_from width f (drop f infos) (drop f ranks) ≡
          cond (is_rank width info.arity rank)
          (bad_from width (f + 1) (drop (f + 1) infos) (drop (f + 1) ranks)) (Some f)
      opened =
          (λ i. bad_from width f (from_place infos f info there i) (from_place ranks f rank next i))

      -- an unlawful rank is
      pub unlawful : is_rank width info.arity rank ≡ false →
          bad_from width f (drop f infos) (drop f ranks) ≡ Some f
      unlawful is =
          opened ∙ ap (λ b. cond b (bad_from width (f + 1) (drop (f + 1) infos)
          (drop (f + 1) ranks)) (Some f)) is

      -- and after a lawful one the others decide
      pub lawful : is_rank width info.arity rank ≡ true →
          bad_from width (f + 1) (drop (f + 1) infos) (drop (f + 1) ranks) ≡
          bad_from width f (drop f infos) (drop f ranks)
      lawful is =
          sym (opened ∙ ap (λ b. cond b (bad_from width (f + 1) (drop (f + 1) infos)
          (drop (f + 1) ranks)) (Some f)) is)

-- with no ranks left, a symbol that is left has none
pub ranks_end : (width f : ℕ) (infos : List SymInfo) (ranks : List (List Body)) → length ranks ≤ f →
    f < length infos → bad_from width f (drop f infos) (drop f ranks) ≡ Some f
ranks_end width f infos ranks ended more = by_symbol (slice_get infos f) refl where
  by_symbol : (o : Option SymInfo) → slice_get infos f ≡ o →
      bad_from width f (drop f infos) (drop f ranks) ≡ Some f
  by_symbol None none = let no = from_end infos f none in absurd (omega (arith, no, more))
  by_symbol (Some info) there =
      no_rank width f infos ranks info there (slice_get_past ranks f ended)
