-- Lists of rows by group. The list of a group of symbols stands at its least symbol, which is its
-- name; the lists at the other symbols are empty.
use Rattle.std.specs.Prelude.{ℕ, ◌+◌, nat_lt, Bool, ◌&&◌, if◌then◌else◌, List, [], ◌∷◌, take, slice_get, slice_set}
use Rattle.std.specs.List.{filter, fold}
use Rattle.std.specs.Option.{option_map_or}
use Rattle.rx_plain.specs.Formed.{Formed}
use Rattle.rx_row.specs.Membership.{pushed}
use Rattle.rx_row.specs.Variables.{row_bound, row_uses_below}
use Rattle.rx_row.specs.declared.row.Row.{Row}
use Rattle.rx_term.specs.declared.rule_set.RuleParts.{RuleParts}
use Rattle.rx_term.specs.declared.rule_set.SymInfo.{SymInfo}
use Rattle.rx_find_domains.specs.Finding.{list_of}
use Rattle.rx_find_domains.specs.Groups.{groups}

-- ---- rows that are taken up

abbrev pub has_variable : Row → Bool
has_variable row = nat_lt 0 (row_bound row)

-- the row comes behind the others unless it is one of them, passes the limits or has no variable
abbrev pub taking : List Row → Formed Row → List Row
taking rows row = if row.within && has_variable row.form then pushed rows row.form else rows

abbrev pub taken : List Row → List (Formed Row) → List Row
taken rows more = fold taking rows more

-- they are taken up by the list with that number
abbrev pub taken_at : List (List Row) → List (Formed Row) → ℕ → List (List Row)
taken_at lists more g = slice_set lists g (taken (list_of lists g) more)

-- by that of the symbol's group
abbrev pub with_rows : List ℕ → List (List Row) → ℕ → List (Formed Row) → List (List Row)
with_rows names lists f more = option_map_or (taken_at lists more) (slice_get names f) lists

-- ---- the rows of a symbol

-- those of its group
abbrev pub group_rows : List ℕ → List (List Row) → ℕ → List Row
group_rows names lists f = option_map_or (list_of lists) (slice_get names f) []

-- of these the ones over so many arguments
abbrev pub rows_over : List ℕ → List (List Row) → ℕ → ℕ → List Row
rows_over names lists f arity = filter (row_uses_below arity) (group_rows names lists f)

-- over the symbol's own arguments
abbrev pub symbol_rows : List ℕ → List SymInfo → List (List Row) → ℕ → List Row
symbol_rows names infos lists f =
    option_map_or (λ (info : SymInfo). rows_over names lists f info.arity) (slice_get infos f) []

-- no domain begins with more rows
abbrev pub most_rows : ℕ
most_rows = 24

-- the rows that the domain of each symbol begins with, the first having that number
abbrev pub by_symbol_from : List ℕ → List (List Row) → ℕ → List SymInfo → List (List Row)
by_symbol_from names lists f [] = []
by_symbol_from names lists f (info ∷ infos) =
    take most_rows (rows_over names lists f info.arity)
    ∷ by_symbol_from names lists (f + 1) infos

abbrev pub by_symbol : RuleParts → List (List Row) → List (List Row)
by_symbol parts lists = by_symbol_from (groups parts) lists 0 parts.symbols
