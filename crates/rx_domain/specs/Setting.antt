-- A rule set with other domains: one list for each symbol, over the symbol's arguments.
use Rattle.std.specs.Prelude.{if◌then◌else◌, ℕ, ◌+◌, Option, Some, None, List, [], ◌∷◌}
use Rattle.rx_row.specs.Variables.{rows_use_below}
use Rattle.rx_row.specs.declared.row.Row.{Row}
use Rattle.rx_term.specs.declared.rule_set.RuleParts.{RuleParts}
use Rattle.rx_term.specs.declared.rule_set.SymInfo.{SymInfo}

-- the same symbols, rules and failure codes
abbrev pub with_domains : RuleParts → List (List Row) → RuleParts
with_domains parts lists = record parts { domains = lists }

-- the first symbol, the first having that number, without a list or whose list isn't over its
-- arguments; where there are more lists than symbols, the number of symbols
abbrev pub bad_from : ℕ → List SymInfo → List (List Row) → Option ℕ
bad_from f [] [] = None
bad_from f [] (rows ∷ lists) = Some f
bad_from f (info ∷ infos) [] = Some f
bad_from f (info ∷ infos) (rows ∷ lists) =
    if rows_use_below info.arity rows then bad_from (f + 1) infos lists else Some f

abbrev pub bad_domain : List SymInfo → List (List Row) → Option ℕ
bad_domain infos lists = bad_from 0 infos lists
