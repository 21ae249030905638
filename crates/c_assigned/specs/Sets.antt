-- Sets of slots that are definitely assigned. A set says of each slot in scope whether it is; none
-- is the set after a place that is never reached, which contains every slot.
use Rattle.std.specs.Prelude.{ℕ, Bool, true, false, not, ◌&&◌, nat_eq, List, [], ◌∷◌, ◌++◌, take, Option, Some, None, option_map, unwrap_or, slice_get, slice_set, if◌then◌else◌}
use Rattle.c_names.specs.Names.{name_at}
use Rattle.c_names.specs.Slots.{slot_of}

-- a set, or none where the place isn't reached
abbrev pub Assigned : Type 0
Assigned = Option (List Bool)

-- the slots that are in both: of sets of different scopes, those of the outer scope, which both
-- have in front
abbrev pub intersection : List Bool → List Bool → List Bool
intersection [] ys = []
intersection (x ∷ xs) [] = []
intersection (x ∷ xs) (y ∷ ys) = (x && y) ∷ intersection xs ys

-- the meet: what is assigned on either way; a way that isn't reached takes nothing away
abbrev pub meet : Assigned → Assigned → Assigned
meet None b = b
meet (Some a) None = Some a
meet (Some a) (Some b) = Some (intersection a b)

-- the set with one slot more after the others
abbrev pub with_slot : Bool → Assigned → Assigned
with_slot is_set = option_map (λ a. a ++ is_set ∷ [])

-- the set with this slot assigned
abbrev pub with_assigned : ℕ → Assigned → Assigned
with_assigned slot = option_map (λ a. slice_set a slot true)

-- the set of the first n slots, as it is after the scope of the others
abbrev pub restrict : ℕ → Assigned → Assigned
restrict slots = option_map (take slots)

-- whether the slot is in the set
abbrev pub is_assigned : Assigned → ℕ → Bool
is_assigned None slot = true
is_assigned (Some a) slot = unwrap_or (slice_get a slot) false

-- whether the two are one slot
abbrev pub is_slot : Option ℕ → ℕ → Bool
is_slot None slot = false
is_slot (Some own) slot = nat_eq own slot

-- whether a variable of this slot may be read, where `own` is the slot whose initial value is being
-- read
abbrev pub may_read : Assigned → Option ℕ → Option ℕ → Bool
may_read set own None = true
may_read set own (Some slot) = not (is_slot own slot) && is_assigned set slot

module _ (names : List ℕ) where
  -- whether the variable whose name is this token may be read: its slot is in the set, and it isn't
  -- the one whose initial value is being read; a name that is no variable in scope is no fault here
  abbrev pub is_readable : List ℕ → Assigned → Option ℕ → ℕ → Bool
  is_readable scope set own token = may_read set own (slot_of scope (name_at names token))

  -- the first of the tokens whose variable may not be read
  abbrev pub first_unset : List ℕ → Assigned → Option ℕ → List ℕ → Option ℕ
  first_unset scope set own [] = None
  first_unset scope set own (token ∷ tokens) =
      if is_readable scope set own token then first_unset scope set own tokens else Some token
