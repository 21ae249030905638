-- The bytes of a source text: their classes, and places in a text.
use Rattle.std.specs.Prelude.{ℕ, ◌+◌, Bool, ◌&&◌, ◌||◌, ◌==◌, nat_le, if◌then◌else◌, List, [], ◌∷◌, slice_index}

abbrev pub tab : ℕ
tab = 9

abbrev pub line_feed : ℕ
line_feed = 10

abbrev pub vertical_tab : ℕ
vertical_tab = 11

abbrev pub form_feed : ℕ
form_feed = 12

abbrev pub carriage_return : ℕ
carriage_return = 13

abbrev pub space : ℕ
space = 32

abbrev pub hash : ℕ
hash = 35

abbrev pub star : ℕ
star = 42

abbrev pub slash : ℕ
slash = 47

abbrev pub digit_zero : ℕ
digit_zero = 48

abbrev pub backslash : ℕ
backslash = 92

abbrev pub underscore : ℕ
underscore = 95

-- a space or a tab
abbrev pub is_space : ℕ → Bool
is_space b = b == space || b == tab

-- a byte that separates tokens
abbrev pub is_separator : ℕ → Bool
is_separator b =
    (((is_space b || b == carriage_return) || b == line_feed) || b == vertical_tab) ||
    b == form_feed

-- 0 to 9
abbrev pub is_digit : ℕ → Bool
is_digit b = nat_le 48 b && nat_le b 57

-- a letter or underscore
abbrev pub is_letter : ℕ → Bool
is_letter b = ((nat_le 97 b && nat_le b 122) || (nat_le 65 b && nat_le b 90)) || b == underscore

-- a byte of a name
abbrev pub is_word_byte : ℕ → Bool
is_word_byte b = is_letter b || is_digit b

-- whether only spaces and tabs have come since the last line end, after one byte more
abbrev pub fresh_after : Bool → ℕ → Bool
fresh_after fresh b = b == line_feed || (fresh && is_space b)

-- the text begins with these two bytes
abbrev pub begins : ℕ → ℕ → List ℕ → Bool
begins x y text = slice_index text 0 == x && slice_index text 1 == y

-- a line ends here
abbrev pub at_line_end : List ℕ → Bool
at_line_end text = slice_index text 0 == line_feed

-- a block comment begins here
abbrev pub at_comment : List ℕ → Bool
at_comment text = begins slash star text

-- a block comment is closed here
abbrev pub at_close : List ℕ → Bool
at_close text = begins star slash text

-- a backslash is here, directly before LF, or before CR LF
abbrev pub at_splice : List ℕ → Bool
at_splice text =
    begins backslash line_feed text || (begins backslash carriage_return text &&
    slice_index text 2 == line_feed)

-- how many bytes are in front of the first place that the test accepts, or all of them
unfoldable pub until : (List ℕ → Bool) → List ℕ → ℕ
until p [] = 0
until p (x ∷ xs) = if p (x ∷ xs) then 0 else 1 + until p xs
