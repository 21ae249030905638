-- Equations as words.
use Rattle.std.specs.Prelude.{◌&&◌, [], ◌∷◌}
use Rattle.rx_term.specs.declared.rule.Equation.{Equation}
use Rattle.rx_text.specs.Formats.{Format}
use Rattle.rx_words.specs.Substitutions.{row_lists}
use Rattle.rx_words.specs.Words.{spaced, words}
use Rattle.rx_term_words.specs.Terms.{terms}

-- the two sides, and the rows
abbrev pub equations : Format Equation
equations =
    words (λ e. spaced (terms.text e.left ∷ terms.text e.right ∷ row_lists.text e.rows ∷ []))
    (λ e. terms.in_range e.left && (terms.in_range e.right && row_lists.in_range e.rows))
