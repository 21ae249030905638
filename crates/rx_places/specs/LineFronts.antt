-- The front of a line of a text.
use Rattle.std.specs.Prelude.{◌≡◌, ◌≤◌, ℕ, zero, suc, ◌-◌, List, [], ◌∷◌, length, take, if◌then◌else◌, Option}
use Rattle.rx_io.specs.Outside.{HoldsBytes, Names}
use Rattle.rx_places.specs.Places.{is_line_feed}

-- the line that comes after so many others, without its line feed; nothing where there is none
abbrev pub line_after : ℕ → List ℕ → List ℕ
line_after lines [] = []
line_after zero (byte ∷ bytes) = if is_line_feed byte then [] else byte ∷ line_after zero bytes
line_after (suc lines) (byte ∷ bytes) =
    if is_line_feed byte then line_after lines bytes else line_after (suc lines) bytes

-- the first bytes of the line with this number, counted from 1
abbrev pub line_front : ℕ → ℕ → List ℕ → List ℕ
line_front most number text = take most (line_after (number - 1) text)

-- that is so of the bytes that are held under the name, where they are known
pub record IsLineHeld (held : Option Names) (name : List ℕ) (limit most number : ℕ)
    (line : List ℕ)
    : Type 0 where
  pub bytes : List ℕ
  pub holds : HoldsBytes held name bytes
  pub within : length bytes ≤ limit
  pub is : line ≡ line_front most number bytes
