-- The walk over borrowed pairs of which some are kept.
use Rattle.std.proofs.Common.{◌≡◌, ◌∙◌, ap, sym, ℕ, ◌+◌, ◌<◌, Bool, true, false, cond, List, [], ◌∷◌, ◌++◌, append_assoc, drop, get_or, length}
use Rattle.std.specs.List.{filter}
use Rattle.std.proofs.lemmas.List.{map-append}
use denote.Ref.{Bor}
use Rattle.rx_pairs.specs.declared.pair.Pair.{Pair}
use Rattle.rx_rank.specs.Answers.{pairs_at}
use Rattle.rx_term.proofs.Places.{at_some, from_place}

module _ (test : Pair → Bool) (refs : List (Bor Pair)) (i : ℕ) (r : Bor Pair)
    (there : i < length refs) (is : r ≡ get_or refs i r) (left after : List (Bor Pair))
    (whole : List Pair) (before : pairs_at left ++ filter test (pairs_at (drop i refs)) ≡ whole)
  where
    abbrev others : List Pair
    others = filter test (pairs_at (drop (i + 1) refs))

    at_one : (b : Bool) → test r.now ≡ b → pairs_at left ++ cond b (r.now ∷ others) others ≡ whole
    at_one b passes =
        sym (ap (λ (c : Bool). pairs_at left ++ cond c (r.now ∷ others) others) passes)
        ∙ ap (λ rs. pairs_at left ++ filter test (pairs_at rs))
        (sym (from_place refs i r (at_some refs i r r there is)))
        ∙ before

    -- one that is kept
    pub one_kept_more : test r.now ≡ true → after ≡ left ++ r ∷ [] →
        pairs_at after ++ others ≡ whole
    one_kept_more passes longer =
        ap (λ rs. pairs_at rs ++ others) longer
        ∙ ap (λ ps. ps ++ others) (map-append (λ (p : Bor Pair). p.now) left (r ∷ []))
        ∙ append_assoc (pairs_at left) (r.now ∷ []) others
        ∙ at_one true passes

    -- one that isn't
    pub one_left_out : test r.now ≡ false → after ≡ left → pairs_at after ++ others ≡ whole
    one_left_out passes same = ap (λ rs. pairs_at rs ++ others) same ∙ at_one false passes
