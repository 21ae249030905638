-- The open pairs by component.
use Rattle.std.specs.Prelude.{ℕ, Vec, List, length, map}
use Rattle.std.specs.List.{filter, flat_map}
use Rattle.std.specs.declared.alloc.Global.{Global}
use Rattle.rx_anchors.specs.Members.{is_member, symbols_of}
use Rattle.rx_find_ranks.specs.declared.open_pair.OpenPair.{OpenPair}

-- the entries whose pairs begin in the component with that name
abbrev pub entries_in : List ℕ → List OpenPair → ℕ → List OpenPair
entries_in names opens c = filter (λ (o : OpenPair). is_member names c o.pair.left.0) opens

-- those of each component, by its name
abbrev pub by_component : List ℕ → List OpenPair → List (List OpenPair)
by_component names opens = map (entries_in names opens) (symbols_of (length names))

-- groups in memory
abbrev pub groups_in : List (Vec OpenPair Global) → List (List OpenPair)
groups_in groups = map (λ v. v.items) groups

-- all entries of groups
abbrev pub ungrouped : List (List OpenPair) → List OpenPair
ungrouped groups = flat_map (λ group. group) groups
