-- The lines of a log, each without the line feed that ends it. A postulate has other text in each
-- version.
use Rattle.std.specs.Prelude.{◌≡◌, ℕ, ◌<◌, ◌≤◌, ◌==◌, nat_le, Bool, true, false, not, ◌&&◌, Option, Some, None, Result, Ok, Err, List, [], ◌∷◌, ◌++◌, length, drop, codes}
use Rattle.std.specs.List.{list_all}
use Rattle.rx_cert.specs.declared.cert.Cert.{Cert}
use Rattle.rx_row.specs.declared.row.Row.{Row}
use Rattle.rx_text.specs.Formats.{Format, is_over}
use Rattle.rx_text.specs.Numbers.{natural_text}
use Rattle.rx_text.specs.Polynomials.{polynomials}
use Rattle.rx_words.specs.Certificates.{certificate_lists}
use Rattle.rx_words.specs.Substitutions.{row_lists}
use Rattle.rx_term_words.specs.Trees.{trees}
use Rattle.rx_words.specs.Words.{each_spaced, in_word, numbers, pairs, spaced}
use Rattle.rx_logtext.specs.Steps.{is_readable_step, step_text}
use Rattle.rx_log.specs.declared.line.Line.{Line}
use Rattle.rx_log.specs.declared.line.Line.TheVariants as line
use Rattle.rx_log.specs.declared.version.Version.{Version}
use Rattle.rx_log.specs.declared.version.Version.TheVariants.{One, Two}
use Rattle.rx_logtext.specs.declared.log_end.LogEnd.{LogEnd}
use Rattle.rx_logtext.specs.declared.log_end.LogEnd.TheVariants as end

-- what `domain`, `cover` and `rank` lines have in front: the kind of line, and the symbol
abbrev pub symbol_text : List ℕ → ℕ → List ℕ
symbol_text kind symbol = kind ++ (codes " s" ++ natural_text symbol)

-- by which column a pair is lower, and its certificates
abbrev pub pair_parts : Format (ℕ × List Cert)
pair_parts = pairs numbers certificate_lists

-- the symbol and its rows
abbrev pub domain_parts : Format (ℕ × List Row)
domain_parts = pairs numbers row_lists

-- a line; the symbol is in it where it is a domain, a cover or a rank
abbrev pub line_text : Version → Line → ℕ → List ℕ
line_text version line.Header symbol = codes "ctrl-log 1"
line_text version line.Header2 symbol = codes "ctrl-log 2"
line_text version (line.Domain rows) symbol =
    symbol_text (codes "domain") symbol ++ (codes " " ++ row_lists.text rows)
line_text version (line.Keep certs) symbol =
    spaced (codes "keep" ∷ certificate_lists.text certs ∷ [])
line_text version (line.Cover covers) symbol =
    symbol_text (codes "cover") symbol ++ each_spaced trees.text covers
line_text version (line.Step step) symbol = step_text version step
line_text version (line.Ranks columns) symbol = spaced (codes "ranks" ∷ natural_text columns ∷ [])
line_text version (line.Rank rank) symbol =
    symbol_text (codes "rank") symbol ++ each_spaced polynomials.text rank
line_text version (line.Pair pair) symbol =
    spaced (codes "pair" ∷ pair_parts.text (pair.column, pair.certs) ∷ [])
line_text version line.End symbol = codes "EQUIVALENT"

-- how many columns a rank has
abbrev pub is_width : ℕ → Bool
is_width columns = nat_le 1 columns && nat_le columns 15

-- all in it has a text; the symbol counts as 0 where the line has none
abbrev pub is_readable_line : Version → Line → ℕ → Bool
is_readable_line version line.Header symbol = symbol == 0
is_readable_line version line.Header2 symbol = symbol == 0
is_readable_line version (line.Domain rows) symbol = domain_parts.in_range (symbol, rows)
is_readable_line version (line.Keep certs) symbol = certificate_lists.in_range certs && symbol == 0
is_readable_line version (line.Cover covers) symbol =
    numbers.in_range symbol && list_all trees.in_range covers
is_readable_line version (line.Step step) symbol = is_readable_step version step && symbol == 0
is_readable_line version (line.Ranks columns) symbol = is_width columns && symbol == 0
is_readable_line version (line.Rank rank) symbol =
    numbers.in_range symbol && (is_width (length rank) && list_all polynomials.in_range rank)
is_readable_line version (line.Pair pair) symbol =
    pair_parts.in_range (pair.column, pair.certs) && symbol == 0
is_readable_line version line.End symbol = symbol == 0

-- a line goes on up to a line feed
abbrev pub in_line : ℕ → Bool
in_line byte = not (byte == 10)

-- lines of logs of a version, with their symbols
abbrev pub lines_of : Version → Format (Line × ℕ)
lines_of version = record {
  text = λ it. line_text version it.0 it.1;
  in_range = λ it. is_readable_line version it.0 it.1;
  goes_on = in_line;
}

-- the bytes are the whole text of a thing in range
pub record IsText {A : Type 0} (format : Format A) (bytes : List ℕ) (thing : A) : Type 0 where
  pub in_range : format.in_range thing ≡ true
  pub text : bytes ≡ format.text thing

-- what a reader of whole texts answers: the thing; None exactly where the bytes are the text of
-- none
abbrev pub ReadsAll : {A : Type 0} → Format A → List ℕ → Option A → Type 0
ReadsAll format bytes (Some thing) = IsText format bytes thing
ReadsAll {A} format bytes None = (thing : A) → ¬ (IsText format bytes thing)

-- only version 2 has lines of this kind
abbrev pub is_new : Line → Bool
is_new line.Header2 = true
is_new (line.Domain rows) = true
is_new (line.Keep certs) = true
is_new other = false

-- logs of the version have lines of this kind
abbrev pub is_of : Version → Line → Bool
is_of One line = not (is_new line)
is_of Two line.Header = false
is_of Two other = true

-- the bytes are a line of a log of the version, with this value
abbrev pub IsLine : Version → List ℕ → Line → Type 0
IsLine version bytes line =
    (is_of version line ≡ true)
    × ((symbol : ℕ) × IsText (lines_of version) bytes (line, symbol))

-- what skips a whole word answers: the place after it; None exactly where it isn't there
abbrev pub SkipsWhole : List ℕ → List ℕ → ℕ → Option ℕ → Type 0
SkipsWhole word bytes at (Some end) =
    (at < end)
    × ((end ≤ length bytes)
    × ((drop at bytes ≡ word ++ drop end bytes) × (is_over in_word (drop end bytes) ≡ true)))
SkipsWhole word bytes at None =
    (left : List ℕ) → is_over in_word left ≡ true → ¬ (drop at bytes ≡ word ++ left)

-- what a reader of things that are each after a space answers; None exactly where the bytes are no
-- such list
abbrev pub ReadsEach : {A : Type 0} → Format A → List ℕ → Option (List A) → Type 0
ReadsEach each bytes (Some things) =
    (list_all each.in_range things ≡ true) × (bytes ≡ each_spaced each.text things)
ReadsEach {A} each bytes None =
    (things : List A) → list_all each.in_range things ≡ true →
    ¬ (bytes ≡ each_spaced each.text things)

-- what a reader of one line answers: a line of a log of the version; BadLine with the number 1
-- exactly where the bytes are a line of none
abbrev pub ReadsLine : Version → List ℕ → Result Line LogEnd → Type 0
ReadsLine version bytes (Ok line) = IsLine version bytes line
ReadsLine version bytes (Err (end.BadLine number)) =
    (number ≡ 1) × ((line : Line) → ¬ (IsLine version bytes line))
ReadsLine version bytes (Err end.TooDeep) = ⊥
ReadsLine version bytes (Err end.OutOfRange) = ⊥
ReadsLine version bytes (Err end.NoMemory) = Unit {0}
