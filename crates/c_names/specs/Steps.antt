-- Steps of which each may find a fault: the first fault is the answer.
use Rattle.std.specs.Prelude.{◌≡◌, ◌≢◌, Result, Ok, Err, Option, Some, None, List, [], ◌∷◌}
use Rattle.c_names.specs.declared.error.ScopeEnd.{ScopeEnd}
use Rattle.c_names.specs.declared.error.ScopeEnd.TheVariants.{NoMemory}

-- what was found, or a fault
abbrev pub Checked : Type 0 → Type 0
Checked A = Result A ScopeEnd

-- goes on with what was found
abbrev pub and_then : {A B : Type 0} → Checked A → (A → Checked B) → Checked B
and_then (Ok x) next = next x
and_then (Err fault) next = Err fault

-- all of a list, in its order
abbrev pub sequence : {A : Type 0} → List (Checked A) → Checked (List A)
sequence [] = Ok []
sequence (x ∷ xs) = and_then x (λ y. and_then (sequence xs) (λ ys. Ok (y ∷ ys)))

-- a part that may be left out
abbrev pub optional : {A : Type 0} → Option (Checked A) → Checked (Option A)
optional None = Ok None
optional (Some x) = and_then x (λ y. Ok (Some y))

-- the answer is this, except when out of memory
abbrev pub Gives : {A : Type 0} → Result A ScopeEnd → Checked A → Type 0
Gives (Ok x) answer = answer ≡ Ok x
Gives (Err fault) answer = fault ≢ NoMemory → answer ≡ Err fault
