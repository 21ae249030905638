-- The lines of a rule text, each without the line feed that ends it.
use Rattle.std.specs.Prelude.{ℕ, ◌==◌, Bool, true, false, not, ◌&&◌, ◌||◌, List, [], ◌∷◌, ◌++◌, codes}
use Rattle.rx_term.specs.declared.rule.Equation.{Equation}
use Rattle.rx_term.specs.declared.rule.Rule.{Rule}
use Rattle.rx_text.specs.Formats.{Format}
use Rattle.rx_text.specs.Numbers.{naturals}
use Rattle.rx_words.specs.Words.{spaced, word}
use Rattle.rx_term_words.specs.Equations.{equations}
use Rattle.rx_rulefile.specs.declared.rule_line.RuleLine.{RuleLine}
use Rattle.rx_rulefile.specs.declared.rule_line.RuleLine.TheVariants as line

-- ---- numbers

-- greatest failure codes: those of u8
abbrev pub fail_codes : Format ℕ
fail_codes = word (naturals 255)

-- the numbers of symbols, of which there are at most 4,096
abbrev pub symbol_numbers : Format ℕ
symbol_numbers = word (naturals 4095)

-- how many arguments a symbol may have
abbrev pub arities : Format ℕ
arities = word (naturals 128)

-- ---- symbols

-- what a symbol is: a frame, and else whether it is the entry of a function and the head of a loop
abbrev pub kind_text : Bool → Bool → Bool → List ℕ
kind_text true entry head = codes "frame"
kind_text false true true = codes "both"
kind_text false true false = codes "entry"
kind_text false false true = codes "head"
kind_text false false false = codes "point"

-- a frame that is an entry or a head has no text
abbrev pub has_kind : Bool → Bool → Bool → Bool
has_kind frame entry head = not (frame && (entry || head))

-- ---- lines

-- a rule as the two sides and the rows of an equation
abbrev pub equation_of : Rule → Equation
equation_of rule = record { left = rule.left; right = rule.right; rows = rule.rows }

-- a line
abbrev pub line_text : RuleLine → List ℕ
line_text line.Header = codes "ctrl-rules 1"
line_text (line.Fails fails) = spaced (codes "fails" ∷ fail_codes.text fails ∷ [])
line_text (line.Symbol number s) =
    spaced (codes "symbol" ∷ (codes "s" ++ symbol_numbers.text number) ∷ arities.text s.arity
    ∷ kind_text s.frame s.entry s.head ∷ [])
line_text (line.Rule rule) = spaced (codes "rule" ∷ equations.text (equation_of rule) ∷ [])
line_text (line.Equation equation) = spaced (codes "equation" ∷ equations.text equation ∷ [])
line_text line.End = codes "END"

-- all in it has a text
abbrev pub is_readable_line : RuleLine → Bool
is_readable_line line.Header = true
is_readable_line (line.Fails fails) = fail_codes.in_range fails
is_readable_line (line.Symbol number s) =
    symbol_numbers.in_range number
    && (arities.in_range s.arity && has_kind s.frame s.entry s.head)
is_readable_line (line.Rule rule) = equations.in_range (equation_of rule)
is_readable_line (line.Equation equation) = equations.in_range equation
is_readable_line line.End = true

-- lines; one goes on up to a line feed
abbrev pub lines : Format RuleLine
lines = record {
  text = line_text;
  in_range = is_readable_line;
  goes_on = λ byte. not (byte == 10);
}
