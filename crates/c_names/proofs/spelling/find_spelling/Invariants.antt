use Rattle.std.proofs.Common.{◌≡◌, drop, bytes_eq}
use Rattle.std.specs.List.{position_from}
use Rattle.c_names.specs.Spellings.{place_of, spellings}
use Rattle.c_names.proofs.spelling.find_spelling.Given as goal

-- the tokens that are left have the place that all have
abbrev pub invariant-loop-number : goal.invariant-loop-number
invariant-loop-number l =
    (l.place ≡ l.number-index) ×
    (position_from (λ n. bytes_eq n l.name) l.place
    (spellings l.source l.tokens (drop l.number-index l.numbers))
    ≡ place_of (spellings l.source l.tokens l.numbers) l.name)
