-- The line and the column of a place in a text. A place is that of a byte, or the text's end. A
-- line ends with a line feed.
use Rattle.std.specs.Prelude.{ℕ, ◌+◌, Bool, not, ◌==◌, List, take, count_by}
use Rattle.std.specs.List.{suffix_len}

abbrev pub is_line_feed : ℕ → Bool
is_line_feed byte = byte == 10

-- the bytes in front of the place
abbrev pub bytes_before : List ℕ → ℕ → List ℕ
bytes_before text at = take at text

-- how many of them are behind the last line feed among them
abbrev pub before_in_line : List ℕ → ℕ → ℕ
before_in_line text at = suffix_len (λ byte. not (is_line_feed byte)) (bytes_before text at)

-- the number of the place's line, counted from 1
abbrev pub line_of : List ℕ → ℕ → ℕ
line_of text at = 1 + count_by is_line_feed (bytes_before text at)

-- the place's column, in bytes, counted from 1
abbrev pub column_of : List ℕ → ℕ → ℕ
column_of text at = 1 + before_in_line text at
