-- What the outside says: what names hold, what was written, and whether a count of faults rose.
use Rattle.std.specs.Prelude.{◌≡◌, ◌<◌, ◌≤◌, ◌+◌, ◌-◌, ◌^◌, ℕ, min, List, Option, None, Some, ⊤, length, take}
use Rattle.std.specs.Io.KnownBytes.{Appends}

-- what each name holds, by the name's bytes
abbrev pub Names : Type 0
Names = List ℕ → Option (List ℕ)

-- the count rose, or is at the greatest number of 64 bits
abbrev pub Rose : ℕ → ℕ → Type 0
Rose before now = min (before + 1) (2 ^ 64 - 1) ≤ now

-- the names are known, and this one isn't held
abbrev pub IsMissing : Option Names → List ℕ → Type 0
IsMissing None name = ⊥
IsMissing (Some names) name = names name ≡ None

-- these bytes are under the name, where that is known
abbrev pub HoldsBytes : Option Names → List ℕ → List ℕ → Type 0
HoldsBytes None name bytes = ⊤
HoldsBytes (Some names) name bytes = names name ≡ Some bytes

-- more bytes than the limit are under the name, where that is known
abbrev pub HoldsMore : Option Names → List ℕ → ℕ → Type 0
HoldsMore held name limit = (bytes : List ℕ) × HoldsBytes held name bytes × (limit < length bytes)

-- where the names are known, what is left is all that is under the name
abbrev pub IsOpenedAt : Option Names → List ℕ → Option (List ℕ) → Type 0
IsOpenedAt None name left = ⊤
IsOpenedAt (Some names) name left =
    (bytes : List ℕ) × (names name ≡ Some bytes) × (left ≡ Some bytes)

-- known bytes grew by a front of bs that isn't the whole
abbrev pub AppendsPrefix : Option (List ℕ) → Option (List ℕ) → List ℕ → Type 0
AppendsPrefix old new bs = (count : ℕ) × (count < length bs) × Appends old new (take count bs)
