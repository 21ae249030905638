use Rattle.std.proofs.Common.{◌≡◌, ℕ, List, map, take}
use Rattle.c_names.specs.Names.{names_of}
use Rattle.c_names.specs.Seen.{number_in}
use Rattle.c_names.specs.Spellings.{spelling, place_of}
use Rattle.c_names.proofs.names.names_of.Given as goal

-- the table knows the spellings of the tokens that were passed, each by its first place, and their
-- names are found
abbrev pub invariant-loop-token : goal.invariant-loop-token
invariant-loop-token l =
    (l.number ≡ l._token-index)
    × ((w : List ℕ) → number_in l.seen.entries w ≡
    place_of (take l._token-index (map (spelling l.source) l.tokens)) w)
    × (l.names.items ≡ take l._token-index (names_of l.source l.tokens))
