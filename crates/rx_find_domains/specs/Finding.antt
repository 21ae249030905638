-- The domains that are found. They begin with all candidates. A pass goes over all parts, and at
-- each over the occurrences of symbols there; a row of the symbol's list that isn't shown at the
-- arguments there is dropped from the list at once. The passes end with one that drops nothing.
use Rattle.std.specs.Prelude.{ℕ, zero, suc, ◌==◌, Bool, true, false, not, ◌&&◌, if◌then◌else◌, Option, unwrap_or, Some, None, List, [], ◌++◌, length, slice_get, slice_set}
use Rattle.std.specs.List.{filter, fold, sum_by}
use Rattle.rx_poly.specs.Substitution.{numbered}
use Rattle.rx_poly.specs.declared.body.Body.{Body}
use Rattle.rx_row.specs.Substitution.{row_with}
use Rattle.rx_row.specs.contracts.row.RowPartialEq.TheImpl as row_equal
use Rattle.rx_row.specs.declared.row.Row.{Row}
use Rattle.rx_cert.specs.Findings.{Said, Yes, No, Beyond}
use Rattle.rx_cert.specs.Showing.{shown}
use Rattle.rx_solve.specs.Refuter.{refuted}
use Rattle.rx_pairs.specs.Pairs.{Part}
use Rattle.rx_term.specs.declared.rule.Equation.{Equation}
use Rattle.rx_term.specs.declared.rule_set.RuleParts.{RuleParts}
use Rattle.rx_term.specs.declared.term.Sym.{Sym}
use Rattle.rx_find_domains.specs.Candidates.{all_candidates}
use Rattle.rx_find_domains.specs.Parts.{Asking, all_askings}
use Rattle.rx_find_domains.specs.declared.given.Given.{Given}

-- ---- one row at one occurrence

-- the list of the symbol with that number; a symbol after the last list has no rows
abbrev pub list_of : List (List Row) → ℕ → List Row
list_of lists f = unwrap_or (slice_get lists f) []

-- the rows, and behind them the list of the symbol, if there is one
abbrev pub rows_before : List Row → List (List Row) → Option Sym → List Row
rows_before rows lists None = rows
rows_before rows lists (Some f) = rows ++ list_of lists f.0

-- the rows that are given, by the lists as they are
abbrev pub given_rows : Given → List (List Row) → List Row
given_rows given lists = rows_before given.rows lists given.root

-- what passes the limits isn't shown
abbrev pub is_yes : Said → Bool
is_yes Yes = true
is_yes No = false
is_yes Beyond = false

-- the row at these arguments is formed within the limits, and the refuter shows it
abbrev pub is_kept : List Row → List Body → Row → Bool
is_kept given ps row =
    (row_with (numbered ps) row).within &&
    is_yes (shown refuted given (row_with (numbered ps) row).form)

-- the rows but that one
abbrev pub others : Row → List Row → List Row
others row rows = filter (λ other. not ((row_equal.ghosts).eq other row)) rows

-- the lists, with the row dropped from that of the symbol
abbrev pub without : List (List Row) → ℕ → Row → List (List Row)
without lists f row = slice_set lists f (others row (list_of lists f))

abbrev pub at_row : Given → Part → List (List Row) → Row → List (List Row)
at_row given at lists row =
    if is_kept (given_rows given lists) at.arguments row then lists
    else without lists at.symbol.0 row

-- ---- passes

-- the rows that the symbol's list has before the occurrence
abbrev pub at_occurrence : Given → List (List Row) → Part → List (List Row)
at_occurrence given lists at = fold (at_row given at) lists (list_of lists at.symbol.0)

abbrev pub at_part : List (List Row) → Asking → List (List Row)
at_part lists asking = fold (at_occurrence asking.given) lists asking.occurrences

abbrev pub pass : RuleParts → Equation → List (List Row) → List (List Row)
pass parts goal lists = fold at_part lists (all_askings parts goal)

-- how many rows there are
abbrev pub count_rows : List (List Row) → ℕ
count_rows lists = sum_by length lists

-- a pass leaves as many rows as there are: it drops nothing
abbrev pub leaves_all : RuleParts → Equation → List (List Row) → Bool
leaves_all parts goal lists = count_rows (pass parts goal lists) == count_rows lists

-- passes up to one that drops nothing, and at most n
abbrev pub passes : ℕ → RuleParts → Equation → List (List Row) → List (List Row)
passes zero parts goal lists = lists
passes (suc n) parts goal lists =
    if leaves_all parts goal lists then pass parts goal lists
    else passes n parts goal (pass parts goal lists)

-- the lists but for what isn't kept; each pass that drops something leaves fewer rows, so there are
-- no more passes than rows
abbrev pub settled : RuleParts → Equation → List (List Row) → List (List Row)
settled parts goal lists = passes (count_rows lists) parts goal lists

abbrev pub found_domains : RuleParts → Equation → List (List Row)
found_domains parts goal = settled parts goal (all_candidates parts goal)
