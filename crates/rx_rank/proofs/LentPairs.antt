-- Pairs that are borrowed.
use Rattle.std.proofs.Common.{◌≡◌, ◌∙◌, ap, sym, ℕ, ◌<◌, List, get_or, length}
use Rattle.std.proofs.lemmas.List.{get_or-map, length-map}
use denote.Ref.{Bor}
use Rattle.rx_pairs.specs.declared.pair.Pair.{Pair}
use Rattle.rx_rank.specs.Answers.{pairs_at}

abbrev pub pair_now : Bor Pair → Pair
pair_now r = r.now

pub lent_pair : (refs : List (Bor Pair)) (i : ℕ) (r : Bor Pair) → i < length refs → r ≡
    get_or refs i r
    → r.now ≡ get_or (pairs_at refs) i r.now
lent_pair refs i r there is =
    sym (get_or-map pair_now refs i r (pair_now r) there ∙ ap pair_now (sym is))

pub lent_count : (refs : List (Bor Pair)) → length (pairs_at refs) ≡ length refs
lent_count refs = length-map refs pair_now
