-- The open pairs at which a column of heights holds, and those at which it falls.
use Rattle.std.specs.Prelude.{Bool, not, List, ℕ}
use Rattle.rx_rank.specs.Components.{is_inside}
use Rattle.rx_find_ranks.specs.declared.open_pair.OpenPair.{OpenPair}

-- the pairs inside a component, and those between components
abbrev pub is_staying : List ℕ → OpenPair → Bool
is_staying names o = is_inside names o.pair

abbrev pub is_leaving : List ℕ → OpenPair → Bool
is_leaving names o = not (is_staying names o)
