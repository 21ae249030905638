-- What it is to read a thing from bytes at a place. One contract serves for all things that have a
-- text.
use Rattle.std.specs.Prelude.{◌≡◌, ℕ, ◌+◌, ◌<◌, ◌≤◌, ◌==◌, Bool, true, not, ◌||◌, flat_map, Option, Some, None, List, [], ◌∷◌, ◌++◌, length, drop}
use Rattle.std.specs.List.{list_all}

-- how things are written: the text of each, which of them are in range, and which bytes could go on
-- with a text
pub record Format (A : Type 0) : Type 0 where
  pub text : A → List ℕ
  pub in_range : A → Bool
  pub goes_on : ℕ → Bool

-- a text is over where nothing follows it, or a byte that can't go on with it
abbrev pub is_over : (ℕ → Bool) → List ℕ → Bool
is_over goes_on [] = true
is_over goes_on (byte ∷ bytes) = not (goes_on byte)

-- the bytes begin with the whole text of a thing in range, and these are left
pub record BeginsWith {A : Type 0} (format : Format A) (bytes : List ℕ) (thing : A)
    (left : List ℕ) : Type 0 where
  pub in_range : format.in_range thing ≡ true
  pub text : bytes ≡ format.text thing ++ left
  pub over : is_over format.goes_on left ≡ true

-- the thing's text is what the bytes have from the one place up to the other
pub record StandsAt {A : Type 0} (format : Format A) (bytes : List ℕ) (at : ℕ) (thing : A)
    (end : ℕ) : Type 0 where
  pub forward : at < end
  pub inside : end ≤ length bytes
  pub begins : BeginsWith format (drop at bytes) thing (drop end bytes)

-- what a reader answers: the thing whose text is at the place, and the place after it; None exactly
-- where no thing in range has its text there
abbrev pub Reads : {A : Type 0} → Format A → List ℕ → ℕ → Option (A × ℕ) → Type 0
Reads format bytes at (Some read) = StandsAt format bytes at read.0 read.1
Reads {A} format bytes at None =
    (thing : A) (left : List ℕ) → ¬ (BeginsWith format (drop at bytes) thing left)

-- bytes begin with at most one thing, and it ends at one place
abbrev pub IsUnambiguous : {A : Type 0} → Format A → Type 0
IsUnambiguous {A} format =
    (bytes : List ℕ) (x y : A) (left right : List ℕ)
    → BeginsWith format bytes x left → BeginsWith format bytes y right → (x ≡ y) × (left ≡ right)

-- what skips a word answers: the place after the word where the word is at the place; None exactly
-- where it isn't
abbrev pub Skips : List ℕ → List ℕ → ℕ → Option ℕ → Type 0
Skips word bytes at (Some end) =
    (end ≡ at + length word) × ((end ≤ length bytes) × (drop at bytes ≡ word ++ drop end bytes))
Skips word bytes at None = (left : List ℕ) → ¬ (drop at bytes ≡ word ++ left)

-- ---- things one after the other

-- each thing after one byte, as often as there are things
abbrev pub repeated : {A : Type 0} → ℕ → Format A → Format (List A)
repeated byte format = record {
  text = λ things. flat_map (λ thing. byte ∷ format.text thing) things;
  in_range = λ things. list_all format.in_range things;
  goes_on = λ next. format.goes_on next || next == byte;
}
