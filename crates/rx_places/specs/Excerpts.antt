-- The line of a place in a text, with a mark under the place.
use Rattle.std.specs.Prelude.{ℕ, ◌-◌, min, Bool, not, ◌||◌, ◌&&◌, ◌==◌, nat_le, List, ◌++◌, codes, decimal, drop, length, replicate, if◌then◌else◌}
use Rattle.std.specs.List.{take_while}
use Rattle.rx_places.specs.Places.{is_line_feed, bytes_before, before_in_line, line_of}
use Rattle.rx_places.specs.Pieces.{first_shown, last_shown}
use Rattle.rx_places.specs.declared.excerpts.Line as code
use Rattle.rx_places.specs.declared.spots.Spot.{Spot}

-- the line of a place: its number, its bytes in front of the place, and those from it on
pub record Line : Type 0 where
  pub number : ℕ
  pub front : List ℕ
  pub back : List ℕ

-- a line feed, or a carriage return, which may stand in front of one
abbrev pub ends_line : ℕ → Bool
ends_line byte = is_line_feed byte || byte == 13

-- the bytes of the place's line in front of it
abbrev pub front_of : List ℕ → ℕ → List ℕ
front_of text at = drop (at - before_in_line text at) (bytes_before text at)

-- the front of the bytes, up to the first that is part of a line's end
abbrev pub line_at_front : List ℕ → List ℕ
line_at_front bytes = take_while (λ byte. not (ends_line byte)) bytes

abbrev pub line_at : List ℕ → ℕ → Line
line_at text at = record {
  number = line_of text at;
  front = front_of text at;
  back = line_at_front (drop at text);
}

-- how many bytes are shown on each side of the place: a line of at most 200 is shown whole
abbrev pub side_of : Line → ℕ
side_of line =
    if nat_le (length line.front) 200 && nat_le (length line.back) (200 - length line.front)
    then 200 else 100

-- the line after its number
abbrev pub line_text : Line → List ℕ
line_text line =
    codes "  " ++ (decimal line.number ++ (codes " | " ++ (last_shown (side_of line) line.front
    ++ (first_shown (side_of line) line.back ++ codes "\n"))))

-- how many bytes are shown in front of the place, with the dots
abbrev pub margin_of : Line → ℕ
margin_of line = length (last_shown (side_of line) line.front)

-- how many bytes are marked after the first, of that many: as far as the line is shown
abbrev pub tail_of : Line → ℕ → ℕ
tail_of line len = min len (min (length line.back) (side_of line)) - 1

-- the mark under so many bytes from the place on
abbrev pub mark_text : Line → ℕ → List ℕ
mark_text line len =
    codes "  " ++ (replicate (length (decimal line.number)) 32 ++ (codes " | "
    ++ (replicate (margin_of line) 32 ++ (codes "^" ++ (replicate (tail_of line len) 126
    ++ codes "\n")))))

-- the line in which a part of a text begins, with a mark under the part
abbrev pub excerpt : List ℕ → Spot → List ℕ
excerpt text spot =
    line_text (line_at text spot.at) ++ mark_text (line_at text spot.at) spot.len

-- a line under its number; of more than 200 bytes the first
abbrev pub numbered : ℕ → List ℕ → List ℕ
numbered number line =
    codes "  " ++ (decimal number ++ (codes " | " ++ (first_shown 200 line ++ codes "\n")))

-- ---- the values of the code

abbrev pub line_view : code.Line → Line
line_view line = record {
  number = line.number;
  front = line.front.now;
  back = line.back.now;
}
