-- What comes of trying something, and of trying several things in order.
use Rattle.std.specs.Prelude.{Bool, true, false, ◌||◌, Option, Some, None, List, [], ◌∷◌}
use Rattle.std.specs.List.{filter_map, list_any}
use Rattle.rx_cert.specs.Findings.{Said, Yes, No, Beyond}

-- what it makes, where it applies, and whether something that passes the limits was noted on the
-- way
pub record Tried (A : Type 0) : Type 0 where
  pub made : Option A
  pub noted : Bool

-- it applies
abbrev pub applies : {A : Type 0} → A → Tried A
applies x = record { made = Some x; noted = false }

-- it doesn't
abbrev pub fails : {A : Type 0} → Tried A
fails = record { made = None; noted = false }

-- it doesn't because something passes the limits
abbrev pub beyond : {A : Type 0} → Tried A
beyond = record { made = None; noted = true }

-- a condition decides whether it applies
abbrev pub where_shown : {A : Type 0} → Said → A → Tried A
where_shown Yes x = applies x
where_shown No x = fails
where_shown Beyond x = beyond

-- what was made, or else what comes of the later ones, with what was noted before
abbrev pub made_or : {A : Type 0} → Option A → Bool → Tried A → Tried A
made_or (Some x) noted later = record { made = Some x; noted = noted }
made_or None noted later = record { made = later.made; noted = noted || later.noted }

-- the first that applies; nothing after it is tried
abbrev pub first_applying : {A : Type 0} → List (Tried A) → Tried A
first_applying [] = fails
first_applying (t ∷ ts) = made_or t.made t.noted (first_applying ts)

-- all that apply
abbrev pub applying : {A : Type 0} → List (Tried A) → List A
applying {A} ts = filter_map (λ (t : Tried A). t.made) ts

-- something is noted among them
abbrev pub is_noted : {A : Type 0} → List (Tried A) → Bool
is_noted {A} ts = list_any (λ (t : Tried A). t.noted) ts
