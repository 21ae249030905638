-- Groups of symbols. A pair whose right symbol is no entry of a function links its two symbols; two
-- symbols are in one group where a chain of links leads from one to the other, whichever way each
-- link goes.
use Rattle.std.specs.Prelude.{ℕ, Bool, false, ◌==◌, if◌then◌else◌, Option, Some, List, [], ◌∷◌, length, slice_get}
use Rattle.std.specs.List.{flat_map}
use Rattle.std.specs.Option.{option_map_or}
use Rattle.rx_graph.specs.Components.{components_of}
use Rattle.rx_pairs.specs.Listed.{pairs_by_all}
use Rattle.rx_pairs.specs.declared.pair.Pair.{Pair}
use Rattle.rx_term.specs.declared.rule_set.RuleParts.{RuleParts}
use Rattle.rx_term.specs.declared.rule_set.SymInfo.{SymInfo}

-- the symbol is the entry of a function
abbrev pub is_entry : List SymInfo → ℕ → Bool
is_entry infos f = option_map_or (λ (info : SymInfo). info.entry) (slice_get infos f) false

-- the edges of a pair, in both directions; none where its right symbol is an entry
abbrev pub links : List SymInfo → Pair → List (ℕ × ℕ)
links infos pair =
    if is_entry infos pair.right.0 then []
    else (pair.left.0, pair.right.0) ∷ (pair.right.0, pair.left.0) ∷ []

-- those of the pairs of all rules
abbrev pub all_links : RuleParts → List (ℕ × ℕ)
all_links parts = flat_map (links parts.symbols) (pairs_by_all parts.rules)

-- by symbol the name of its group: the group's least symbol
abbrev pub groups : RuleParts → List ℕ
groups parts = components_of (length parts.symbols) (all_links parts)

-- two names are there, and are one
abbrev pub is_one_name : Option ℕ → Option ℕ → Bool
is_one_name (Some a) (Some b) = a == b
is_one_name _ _ = false

-- two symbols are in one group
abbrev pub in_one_group : List ℕ → ℕ → ℕ → Bool
in_one_group names f g = is_one_name (slice_get names f) (slice_get names g)
