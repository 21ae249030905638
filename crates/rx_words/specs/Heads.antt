-- The first words of a certificate: its kind, and all that comes before the certificates in it.
use Rattle.std.specs.Prelude.{◌≡◌, ℕ, ◌&&◌, Bool, true, false, Option, Some, None, List, [], ◌∷◌, ◌++◌, drop, ℤ, codes}
use Rattle.std.specs.Option.{option_map}
use Rattle.rx_cert.specs.declared.cert.Cert.{Cert}
use Rattle.rx_cert.specs.declared.cert.Cert.TheVariants as made
use Rattle.rx_text.specs.Formats.{Format, Skips}
use Rattle.rx_text.specs.Numbers.{integers}
use Rattle.rx_text.specs.Polynomials.{polynomials}
use Rattle.rx_text.specs.Rows.{row_format}
use Rattle.rx_words.specs.Certificates.{part_lists}
use Rattle.rx_words.specs.Words.{numbers, pairs, variables, word, words}
use Rattle.rx_words.specs.declared.heads.Head.{Head}
use Rattle.rx_words.specs.declared.heads.Kind.{Kind}

-- the word of a kind, with the space after it
abbrev pub kind_word : Kind → List ℕ
kind_word Kind.Sum = codes "sum "
kind_word Kind.Cut = codes "cut "
kind_word Kind.Split = codes "split "
kind_word Kind.Differ = codes "differ "
kind_word Kind.Solve = codes "solve "
kind_word Kind.DivFacts = codes "div "

-- the kind whose word is at the place, with the place after it; None exactly where no kind's word
-- is there
abbrev pub ReadsKind : List ℕ → ℕ → Option (Kind × ℕ) → Type 0
ReadsKind bytes at (Some read) = Skips (kind_word read.0) bytes at (Some read.1)
ReadsKind bytes at None = (kind : Kind) (left : List ℕ) → ¬ (drop at bytes ≡ kind_word kind ++ left)

-- the kind of a certificate that begins so
abbrev pub kind_of : Head → Kind
kind_of (Head.Sum parts) = Kind.Sum
kind_of (Head.Cut parts div) = Kind.Cut
kind_of (Head.Split row) = Kind.Split
kind_of (Head.Differ at) = Kind.Differ
kind_of (Head.Solve first second var) = Kind.Solve
kind_of (Head.DivFacts num den) = Kind.DivFacts

-- what comes after the kind
abbrev pub fields_text : Head → List ℕ
fields_text (Head.Sum parts) = part_lists.text parts
fields_text (Head.Cut parts div) = (pairs part_lists (word integers)).text (parts, div)
fields_text (Head.Split row) = row_format.text row
fields_text (Head.Differ at) = numbers.text at
fields_text (Head.Solve first second var) =
    (pairs numbers (pairs numbers variables)).text (first, (second, var))
fields_text (Head.DivFacts num den) = (pairs (word polynomials) (word integers)).text (num, den)

abbrev pub is_readable_head : Head → Bool
is_readable_head (Head.Sum parts) = part_lists.in_range parts
is_readable_head (Head.Cut parts div) = (pairs part_lists (word integers)).in_range (parts, div)
is_readable_head (Head.Split row) = row_format.in_range row
is_readable_head (Head.Differ at) = numbers.in_range at
is_readable_head (Head.Solve first second var) =
    (pairs numbers (pairs numbers variables)).in_range (first, (second, var))
is_readable_head (Head.DivFacts num den) =
    (pairs (word polynomials) (word integers)).in_range (num, den)

-- a test of the kind
abbrev pub is_of : Kind → Head → Bool
is_of Kind.Sum (Head.Sum parts) = true
is_of Kind.Cut (Head.Cut parts div) = true
is_of Kind.Split (Head.Split row) = true
is_of Kind.Differ (Head.Differ at) = true
is_of Kind.Solve (Head.Solve first second var) = true
is_of Kind.DivFacts (Head.DivFacts num den) = true
is_of kind head = false

-- what comes after the word of one kind
abbrev pub fields : Kind → Format Head
fields kind = words fields_text (λ head. is_of kind head && is_readable_head head)

-- the first words of certificates
abbrev pub heads : Format Head
heads = words (λ head. kind_word (kind_of head) ++ fields_text head) is_readable_head

-- the numbers of two rows and a variable that were read, as what a certificate begins with
abbrev pub solution : Option ((ℕ × (ℕ × ℕ)) × ℕ) → Option (Head × ℕ)
solution None = None
solution (Some read) = Some (Head.Solve read.0.0 read.0.1.0 read.0.1.1, read.1)

-- how many certificates come after
abbrev pub inner_count : Head → ℕ
inner_count (Head.Sum parts) = 0
inner_count (Head.Cut parts div) = 1
inner_count (Head.Split row) = 2
inner_count (Head.Differ at) = 2
inner_count (Head.Solve first second var) = 1
inner_count (Head.DivFacts num den) = 2

-- the one certificate of a list of one
abbrev pub only_one : List Cert → Option Cert
only_one [] = None
only_one (cert ∷ []) = Some cert
only_one (cert ∷ next ∷ certs) = None

-- the two of a list of two
abbrev pub only_two : List Cert → Option (Cert × Cert)
only_two [] = None
only_two (first ∷ []) = None
only_two (first ∷ second ∷ []) = Some (first, second)
only_two (first ∷ second ∷ third ∷ certs) = None

-- a sum has no certificate in it
abbrev pub sum_alone : List (ℕ × ℤ) → List Cert → Option Cert
sum_alone parts [] = Some (made.Sum parts)
sum_alone parts (cert ∷ certs) = None

-- the certificate that begins so and has those certificates in it, where that is their number
abbrev pub assembled : Head → List Cert → Option Cert
assembled (Head.Sum parts) inner = sum_alone parts inner
assembled (Head.Cut parts div) inner = option_map (λ rest. made.Cut parts div rest) (only_one inner)
assembled (Head.Split row) inner =
    option_map (λ pair. made.Split row pair.0 pair.1) (only_two inner)
assembled (Head.Differ at) inner =
    option_map (λ pair. made.Differ at pair.0 pair.1) (only_two inner)
assembled (Head.Solve first second var) inner =
    option_map (λ rest. made.Solve first second var rest) (only_one inner)
assembled (Head.DivFacts num den) inner =
    option_map (λ pair. made.DivFacts num den pair.0 pair.1) (only_two inner)
