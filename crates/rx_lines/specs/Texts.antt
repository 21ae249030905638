-- Texts of lines, each ended by a line feed, and things that are whole lines.
use Rattle.std.specs.Prelude.{◌≡◌, ℕ, ◌<◌, ◌≤◌, ◌==◌, Bool, true, not, if◌then◌else◌, Option, Some, None, List, [], ◌∷◌, ◌++◌, drop, flat_map, length}
use Rattle.std.specs.List.{list_all}
use Rattle.rx_text.specs.Formats.{Format, is_over}
use Rattle.rx_words.specs.Words.{in_word}

-- ---- lines

-- no line feed is among the bytes
abbrev pub is_one_line : List ℕ → Bool
is_one_line bytes = list_all (λ byte. not (byte == 10)) bytes

-- each line, ended by a line feed
abbrev pub ended : List (List ℕ) → List ℕ
ended texts = flat_map (λ text. text ++ 10 ∷ []) texts

-- the first line of a text without its line feed, and what comes after that; None exactly where
-- there is no line feed
abbrev pub SplitsLine : List ℕ → Option (List ℕ × List ℕ) → Type 0
SplitsLine text (Some cut) = (text ≡ cut.0 ++ 10 ∷ cut.1) × (is_one_line cut.0 ≡ true)
SplitsLine text None = is_one_line text ≡ true

-- ---- whole texts

-- the bytes are the whole text of a thing in range
pub record IsText {A : Type 0} (format : Format A) (bytes : List ℕ) (thing : A) : Type 0 where
  pub in_range : format.in_range thing ≡ true
  pub text : bytes ≡ format.text thing

-- what a reader of whole texts answers: the thing; None exactly where the bytes are the text of
-- none
abbrev pub ReadsAll : {A : Type 0} → Format A → List ℕ → Option A → Type 0
ReadsAll format bytes (Some thing) = IsText format bytes thing
ReadsAll {A} format bytes None = (thing : A) → ¬ (IsText format bytes thing)

-- ---- words

-- what was read, where the bytes end after it; else None
abbrev pub up_to_end : {A : Type 0} → List ℕ → Option (A × ℕ) → Option A
up_to_end bytes (Some read) = if read.1 == length bytes then Some read.0 else None
up_to_end bytes None = None

-- what skips a whole word answers: the place after it; None exactly where it isn't there
abbrev pub SkipsWhole : List ℕ → List ℕ → ℕ → Option ℕ → Type 0
SkipsWhole word bytes at (Some end) =
    (at < end)
    × ((end ≤ length bytes)
    × ((drop at bytes ≡ word ++ drop end bytes) × (is_over in_word (drop end bytes) ≡ true)))
SkipsWhole word bytes at None =
    (left : List ℕ) → is_over in_word left ≡ true → ¬ (drop at bytes ≡ word ++ left)
