-- What the visits within a budget come to.
use Rattle.std.specs.Prelude.{ℕ, nat_lt, Bool, true, false, Option, Some, None, List, [], ◌∷◌, length, take}
use Rattle.std.specs.List.{find}
use Rattle.std.specs.Option.{option_map, option_or}
use Rattle.rx_deepening.specs.Visits.{Visit}
use Rattle.rx_deepening.specs.declared.outcome.Outcome.{Outcome}
use Rattle.rx_deepening.specs.declared.outcome.Outcome.TheVariants.{Closed, Noted, Spent, Through}
use Rattle.rx_deepening.specs.declared.outcome.Note.{Note}

-- what was noted at a visit, with the path to it
abbrev pub note_of : {N R : Type 0} → Visit N R → Option (Note R)
note_of v = option_map (λ rows. record { path = v.path; noted = rows }) v.note

-- the first note
abbrev pub first_note : {N R : Type 0} → List (Visit N R) → Option (Note R)
first_note [] = None
first_note (v ∷ vs) = option_or (note_of v) (first_note vs)

-- the first closed node
abbrev pub first_closed : {N R : Type 0} → List (Visit N R) → Option (Visit N R)
first_closed {N} {R} vs = find (λ (v : Visit N R). v.closed) vs

-- a closed node decides
abbrev pub closed_or : {N R : Type 0} → Option (Visit N R) → Outcome N R → Outcome N R
closed_or (Some v) later = Closed v.node
closed_or None later = later

-- a note decides
abbrev pub noted_or : {N R : Type 0} → Option (Note R) → Outcome N R → Outcome N R
noted_or (Some note) later = Noted note
noted_or None later = later

-- whether there are more visits decides
abbrev pub spent_if : {N R : Type 0} → Bool → Outcome N R
spent_if true = Spent
spent_if false = Through

-- the first closed node among the first `budget` visits; else the first note among them; else
-- whether there are more
abbrev pub outcome : {N R : Type 0} → ℕ → List (Visit N R) → Outcome N R
outcome budget vs =
    closed_or (first_closed (take budget vs))
    (noted_or (first_note (take budget vs))
    (spent_if (nat_lt budget (length vs))))
