-- What may not apply: the first thing that doesn't decides.
use Rattle.std.specs.Prelude.{Option, Some, None, List, [], ◌∷◌, ◌++◌}

-- the first, and then what comes of it
infixl 10 ◌>>=◌
abbrev pub ◌>>=◌ : {A B : Type 0} → Option A → (A → Option B) → Option B
None >>= further = None
Some x >>= further = further x

-- a value taken on by each element in order
abbrev pub try_fold : {A B : Type 0} → (B → A → Option B) → B → List A → Option B
try_fold step done [] = Some done
try_fold step done (x ∷ xs) = do
  next ← step done x
  try_fold step next xs

-- what comes of an element, after the others
abbrev pub with_next : {A B : Type 0} → (A → Option B) → List B → A → Option (List B)
with_next change done x = do
  y ← change x
  Some (done ++ y ∷ [])

-- what comes of each element, in order
abbrev pub try_map : {A B : Type 0} → (A → Option B) → List A → Option (List B)
try_map change xs = try_fold (with_next change) [] xs
