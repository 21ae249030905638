-- What a run keeps: the values that wait for their operator or call, of which the top is the first;
-- the slots of the callers; the slots of the running function; and how many slots there were as
-- each scope began that hasn't ended, the innermost first.
use Rattle.std.specs.Prelude.{ℕ, List, [], ◌∷◌, ◌++◌, length, take, drop, reverse, ℤ, pos}
use Rattle.c_meaning.specs.Outcomes.{State}

pub record Kept : Type 0 where
  pub values : List ℤ
  pub below : List ℤ
  pub state : State
  pub scopes : List ℕ

-- with other slots of the running function
abbrev pub with_state : Kept → State → Kept
with_state k s = record { values = k.values; below = k.below; state = s; scopes = k.scopes }

-- with other values that wait
abbrev pub with_values : Kept → List ℤ → Kept
with_values k xs = record { values = xs; below = k.below; state = k.state; scopes = k.scopes }

-- with other scopes
abbrev pub with_scopes : Kept → List ℕ → Kept
with_scopes k counts =
    record { values = k.values; below = k.below; state = k.state; scopes = counts }

-- the value on top; 0 where there is none
abbrev pub top : List ℤ → ℤ
top [] = pos 0
top (x ∷ xs) = x

abbrev pub below_top : List ℤ → List ℤ
below_top [] = []
below_top (x ∷ xs) = xs

-- how many slots there were as the innermost scope began
abbrev pub scope_count : List ℕ → ℕ
scope_count [] = 0
scope_count (count ∷ counts) = count

abbrev pub outer_scopes : List ℕ → List ℕ
outer_scopes [] = []
outer_scopes (count ∷ counts) = counts

-- a value pushed on top
abbrev pub pushed : Kept → ℤ → Kept
pushed k x = with_values k (x ∷ k.values)

-- a scope begins
abbrev pub entered : Kept → Kept
entered k = with_scopes k (length k.state ∷ k.scopes)

-- a scope ends
abbrev pub left_scope : Kept → Kept
left_scope k =
    with_scopes (with_state k (take (scope_count k.scopes) k.state)) (outer_scopes k.scopes)

-- a function ends: no slot of it is read any more, and n scopes have ended
abbrev pub ended : Kept → ℕ → Kept
ended k scopes = with_scopes (with_state k []) (drop scopes k.scopes)

-- the slots that go to the caller, whose own begin at `base`
abbrev pub given_back : Kept → ℕ → Kept
given_back k base =
    record {
      values = k.values;
      below = take base k.below;
      state = drop base k.below;
      scopes =
          k.scopes;
    }

-- a function begins, whose slots are n values from the top
abbrev pub called : Kept → ℕ → Kept
called k count = record {
  values = drop count k.values;
  below = k.below ++ k.state;
  state = reverse (take count k.values);
  scopes = k.scopes;
}
