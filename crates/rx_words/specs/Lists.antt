-- What it is to read n things, each after a space; and to read to the end of a word.
use Rattle.std.specs.Prelude.{◌≡◌, ℕ, ◌≤◌, true, if◌then◌else◌, Option, Some, None, List, ◌++◌, length, drop}
use Rattle.std.specs.List.{list_all}
use Rattle.rx_text.specs.Formats.{Format, is_over}
use Rattle.rx_words.specs.Words.{each_spaced, in_word}

-- n things in range are there, each after a space, and these bytes are left
pub record AreSpaced {A : Type 0} (each : Format A) (count : ℕ) (bytes : List ℕ) (things : List A)
    (left : List ℕ) : Type 0 where
  pub many : length things ≡ count
  pub in_range : list_all each.in_range things ≡ true
  pub text : bytes ≡ each_spaced each.text things ++ left
  pub over : is_over in_word left ≡ true

-- the things that are at the place, with the place after them; None exactly where n aren't there
abbrev pub ReadsSpaced : {A : Type 0} → Format A → ℕ → List ℕ → ℕ → Option (List A × ℕ) → Type 0
ReadsSpaced each count bytes at (Some read) =
    (at ≤ read.1) × ((read.1 ≤ length bytes) ×
    AreSpaced each count (drop at bytes) read.0 (drop read.1 bytes))
ReadsSpaced {A} each count bytes at None =
    (things : List A) (left : List ℕ) → ¬ (AreSpaced each count (drop at bytes) things left)

-- what was read, where a word ends after it
abbrev pub ending_word : {A : Type 0} → List ℕ → Option (A × ℕ) → Option (A × ℕ)
ending_word bytes None = None
ending_word bytes (Some read) = if is_over in_word (drop read.1 bytes) then Some read else None
