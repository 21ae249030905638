-- How what comes of trying parts makes what comes of the whole.
use Rattle.std.specs.Prelude.{Bool, true, false, ◌||◌, Option, Some, None, List, [], ◌∷◌, ◌++◌}
use Rattle.std.specs.Option.{option_map}
use Rattle.rx_plain.specs.Formed.{Formed}
use Rattle.rx_cert.specs.Findings.{Said, Yes, No, Beyond}
use Rattle.rx_solve.specs.Attempts.{Tried, applies, beyond, fails}

-- the same, with what was noted before
abbrev pub noting : {A : Type 0} → Bool → Tried A → Tried A
noting before t = record { made = t.made; noted = before || t.noted }

-- what is tried next with what was made, and with what was noted before; nothing is where nothing
-- was made
abbrev pub made_then : {A B : Type 0} → Option A → Bool → (A → Tried B) → Tried B
made_then None noted next = record { made = None; noted = noted }
made_then (Some x) noted next = noting noted (next x)

abbrev pub and_then : {A B : Type 0} → Tried A → (A → Tried B) → Tried B
and_then t next = made_then t.made t.noted next

-- what is formed, where it keeps the limits
abbrev pub kept_tried : {A : Type 0} → Bool → A → Tried A
kept_tried true x = applies x
kept_tried false x = beyond

abbrev pub formed_tried : {A : Type 0} → Formed A → Tried A
formed_tried f = kept_tried f.within f.form

-- a condition decides whether the next is tried
abbrev pub if_shown : {A : Type 0} → Said → Tried A → Tried A
if_shown Yes next = next
if_shown No next = fails
if_shown Beyond next = beyond

-- the elements before those that are made
abbrev pub after : {A : Type 0} → List A → Tried (List A) → Tried (List A)
after xs t = record { made = option_map (λ ys. xs ++ ys) t.made; noted = t.noted }

-- lists that are made one after the other, up to the first that isn't, as one list
abbrev pub all_made : {A : Type 0} → List (Tried (List A)) → Tried (List A)
all_made [] = applies []
all_made (t ∷ ts) = and_then t (λ xs. after xs (all_made ts))

-- one answer: something is made, or nothing is because of the limits perhaps, or surely nothing
abbrev pub made_said : {A : Type 0} → Option A → Bool → Said
made_said (Some x) noted = Yes
made_said None true = Beyond
made_said None false = No

abbrev pub tried_said : {A : Type 0} → Tried A → Said
tried_said t = made_said t.made t.noted
