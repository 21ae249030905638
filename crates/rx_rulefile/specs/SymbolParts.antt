-- The line of a symbol by its parts, as it is read.
use Rattle.std.specs.Prelude.{ℕ}
use Rattle.rx_text.specs.Formats.{Format}
use Rattle.rx_words.specs.Words.{pairs, words}
use Rattle.rx_rulefile.specs.RuleLines.{arities, has_kind, kind_text, symbol_numbers}
use Rattle.rx_rulefile.specs.declared.kinds.Kind.{Kind}

-- what symbols are, as words
abbrev pub kinds : Format Kind
kinds =
    words (λ kind. kind_text kind.frame kind.entry kind.head)
    (λ kind. has_kind kind.frame kind.entry kind.head)

-- how many arguments, and what it is
abbrev pub shapes : Format (ℕ × Kind)
shapes = pairs arities kinds

-- the number in front of that
abbrev pub symbols : Format (ℕ × (ℕ × Kind))
symbols = pairs symbol_numbers shapes
