-- Scopes: the names in scope are listed by slot, in the order of declaration, parameters first.
use Rattle.std.specs.Prelude.{ℕ, ◌+◌, nat_eq, List, [], ◌∷◌, Option, Some, None, if◌then◌else◌}
use Rattle.std.specs.Option.{option_or}

-- the last slot of the name, where the list begins at slot i
abbrev pub slot_from : ℕ → List ℕ → ℕ → Option ℕ
slot_from i [] name = None
slot_from i (n ∷ ns) name =
    option_or (slot_from (i + 1) ns name) (if nat_eq n name then Some i else None)

-- the slot of the variable that a name denotes: the last of that name, since an inner declaration
-- hides an outer one (ISO/IEC 9899:1999, 6.2.1p4)
abbrev pub slot_of : List ℕ → ℕ → Option ℕ
slot_of scope name = slot_from 0 scope name
