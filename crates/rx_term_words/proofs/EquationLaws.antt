-- An equation is its left side, and a pair of its right side and its rows.
use Rattle.std.proofs.Common.{◌≡◌, ◌∙◌, ap, sym, ℕ, List, ◌++◌, ◌∷◌, [], drop, Some, None}
use Rattle.rx_row.specs.declared.row.Row.{Row}
use Rattle.rx_term.specs.declared.rule.Equation.{Equation}
use Rattle.rx_term.specs.declared.term.Term.{Term}
use Rattle.rx_text.specs.Formats.{BeginsWith, IsUnambiguous, Reads, Skips, StandsAt}
use Rattle.rx_term_words.specs.Equations.{equations}
use Rattle.rx_words.specs.Substitutions.{row_lists}
use Rattle.rx_term_words.specs.Terms.{terms}
use Rattle.rx_words.specs.Words.{pairs}
use Rattle.rx_words.proofs.Joined.{no_first, no_middle, no_second, pair_stands, pairs_once}
use Rattle.rx_words.proofs.Once.{row_lists_once}
use Rattle.rx_term_words.proofs.TermLaws.{terms_once}

right_once : IsUnambiguous (pairs terms row_lists)
right_once =
    pairs_once terms.text terms.in_range row_lists.text row_lists.in_range terms_once row_lists_once

whole_once : IsUnambiguous (pairs terms (pairs terms row_lists))
whole_once =
    pairs_once terms.text terms.in_range (pairs terms row_lists).text
    (pairs terms row_lists).in_range terms_once right_once

abbrev parts_of : Equation → Term × (Term × List Row)
parts_of e = (e.left, (e.right, e.rows))

as_parts : {bytes left : List ℕ} {e : Equation} → BeginsWith equations bytes e left
    → BeginsWith (pairs terms (pairs terms row_lists)) bytes (parts_of e) left
as_parts b = record { in_range = b.in_range; text = b.text; over = b.over }

pub equations_once : IsUnambiguous equations
equations_once bytes x y left right b c =
    let s = whole_once bytes (parts_of x) (parts_of y) left right (as_parts b) (as_parts c) in
    ((λ i. record { left = (s.0 i).0; right = (s.0 i).1.0; rows = (s.0 i).1.1 }), s.1)

no_parts : (bytes : List ℕ) (at : ℕ) → Reads (pairs terms (pairs terms row_lists)) bytes at None →
    Reads equations bytes at None
no_parts bytes at never e left b = never (parts_of e) left (as_parts b)

pub no_left : (bytes : List ℕ) (at : ℕ) → Reads terms bytes at None → Reads equations bytes at None
no_left bytes at never =
    no_parts bytes at (no_first terms.text terms.in_range (pairs terms row_lists).text
    (pairs terms row_lists).in_range bytes at never)

pub no_space_after : (bytes : List ℕ) (at : ℕ) {middle : ℕ} {t : Term} →
    StandsAt terms bytes at t middle → Skips (32 ∷ []) bytes middle None →
    Reads equations bytes at None
no_space_after bytes at s k =
    no_parts bytes at (no_middle terms.text terms.in_range (pairs terms row_lists).text
    (pairs terms row_lists).in_range terms_once s k)

pub no_right : (bytes : List ℕ) (at : ℕ) {middle next : ℕ} {t : Term} →
    StandsAt terms bytes at t middle → Skips (32 ∷ []) bytes middle (Some next)
    → Reads (pairs terms row_lists) bytes next None → Reads equations bytes at None
no_right bytes at s k never =
    no_parts bytes at (no_second terms.text terms.in_range (pairs terms row_lists).text
    (pairs terms row_lists).in_range terms_once s k never)

pub equation_stands : (bytes : List ℕ) (at : ℕ) {middle next end : ℕ} (e : Equation)
    {left right : Term} {rows : List Row}
    → e ≡ record { left = left; right = right; rows = rows } → StandsAt terms bytes at left middle
    → Skips (32 ∷ []) bytes middle (Some next) →
    StandsAt (pairs terms row_lists) bytes next (right, rows) end →
    StandsAt equations bytes at e end
equation_stands bytes at {middle} {next} {end} e {left} {right} {rows} is s k t =
    let p = pair_stands terms.text terms.in_range (pairs terms row_lists).text
    (pairs terms row_lists).in_range s k t in
    let made : Equation = record { left = left; right = right; rows = rows } in
    record {
      forward = p.forward;
      inside = p.inside;
      begins = record {
        in_range = ap equations.in_range is ∙ p.begins.in_range;
        text = p.begins.text ∙ ap (λ (x : Equation). equations.text x ++ drop end bytes) (sym is);
        over = p.begins.over;
      };
    }
