-- How bytes of a text are shown in a message.
use Rattle.std.specs.Prelude.{ℕ, ◌-◌, Bool, ◌&&◌, ◌||◌, ◌==◌, nat_le, nat_lt, List, [], ◌++◌, codes, map, take, drop, length, if◌then◌else◌}

-- a byte: printable ASCII as it is, a tab as a space, all else as `?`
abbrev pub shown : ℕ → ℕ
shown byte = if byte == 9 then 32 else (if nat_le 32 byte && nat_le byte 126 then byte else 63)

-- three dots where something is left out
abbrev pub dots : Bool → List ℕ
dots is_cut = if is_cut then codes "..." else []

-- the first bytes, and dots for more
abbrev pub first_shown : ℕ → List ℕ → List ℕ
first_shown most bytes = map shown (take most bytes) ++ dots (nat_lt most (length bytes))

-- the last bytes, and dots for more
abbrev pub last_shown : ℕ → List ℕ → List ℕ
last_shown most bytes =
    dots (nat_lt most (length bytes)) ++ map shown (drop (length bytes - most) bytes)

-- a word of a text between quotes; of more than 60 bytes the first
abbrev pub quoted : List ℕ → List ℕ
quoted bytes = codes "'" ++ (first_shown 60 bytes ++ codes "'")

-- a name of a file or of a function, which is UTF-8, without its control bytes
abbrev pub shown_in_name : ℕ → ℕ
shown_in_name byte = if nat_lt byte 32 || byte == 127 then 63 else byte

abbrev pub named : List ℕ → List ℕ
named bytes = map shown_in_name bytes
