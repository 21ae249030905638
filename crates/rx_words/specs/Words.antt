-- Words of a line: what is joined by single spaces, and lists with their number in front.
use Rattle.std.specs.Prelude.{ℕ, ◌-◌, ◌^◌, Bool, not, ◌&&◌, ◌||◌, ◌==◌, List, [], ◌∷◌, ◌++◌, length, flat_map, codes}
use Rattle.std.specs.List.{list_all}
use Rattle.rx_text.specs.Formats.{Format}
use Rattle.rx_text.specs.Numbers.{natural_text, naturals}

-- a space or a line feed ends a word, any other byte goes on with it
abbrev pub in_word : ℕ → Bool
in_word byte = not (byte == 32 || byte == 10)

-- things whose texts are words, and so end where a word does
abbrev pub words : {A : Type 0} → (A → List ℕ) → (A → Bool) → Format A
words text in_range = record { text = text; in_range = in_range; goes_on = in_word }

-- the same things, each up to the end of a word
abbrev pub word : {A : Type 0} → Format A → Format A
word format = words format.text format.in_range

-- texts joined by single spaces
abbrev pub spaced : List (List ℕ) → List ℕ
spaced [] = []
spaced (text ∷ []) = text
spaced (text ∷ next ∷ texts) = text ++ (codes " " ++ spaced (next ∷ texts))

-- one thing, a space, and another
abbrev pub pairs : {A B : Type 0} → Format A → Format B → Format (A × B)
pairs first second =
    words (λ pair. spaced (first.text pair.0 ∷ second.text pair.1 ∷ []))
    (λ pair. first.in_range pair.0 && second.in_range pair.1)

-- natural numbers of u32
abbrev pub numbers : Format ℕ
numbers = word (naturals (2 ^ 32 - 1))

-- the numbers of variables, below 1,000,000
abbrev pub variables : Format ℕ
variables = word (naturals 999999)

-- each thing after a space
abbrev pub each_spaced : {A : Type 0} → (A → List ℕ) → List A → List ℕ
each_spaced text xs = flat_map (λ x. codes " " ++ text x) xs

-- a list: how many things there are, and each of them
abbrev pub counted : {A : Type 0} → Format A → Format (List A)
counted each =
    words (λ xs. natural_text (length xs) ++ each_spaced each.text xs)
    (λ xs. numbers.in_range (length xs) && list_all each.in_range xs)
