-- Rank tables: for each symbol equally many polynomials over its arguments, its columns.
use Rattle.std.specs.Prelude.{Bool, if◌then◌else◌, ◌&&◌, ℕ, suc, ◌+◌, ◌==◌, Option, Some, None, unwrap_or, List, [], ◌∷◌, length, map, slice_get, ℤ, pos, negsuc}
use Rattle.std.specs.List.{list_all}
use Rattle.rx_poly.specs.Value.{value}
use Rattle.rx_poly.specs.Variables.{uses_below}
use Rattle.rx_poly.specs.declared.body.Body.{Body}
use Rattle.rx_rewriting.specs.Ranks.{Rank}
use Rattle.rx_term.specs.Assigned.{assigned}
use Rattle.rx_term.specs.declared.rule_set.RuleParts.{RuleParts}
use Rattle.rx_term.specs.declared.rule_set.SymInfo.{SymInfo}
use Rattle.rx_pairs.specs.declared.table.RankTable.{RankTable}

-- a column's value: the greater of 0 and the polynomial's value plus 1
abbrev pub column : ℤ → ℕ
column (pos n) = suc n
column (negsuc n) = 0

-- the columns of a symbol, none where the table has no rank of it
abbrev pub columns_of : RankTable → ℕ → List Body
columns_of table f = unwrap_or (slice_get table.ranks f) []

-- the rank of a symbol at its arguments
abbrev pub rank_of : RankTable → ℕ → List ℤ → Rank
rank_of table f xs = map (λ p. column (value (assigned xs) p)) (columns_of table f)

-- the rank has the table's width, and is over the first n variables
abbrev pub is_rank : ℕ → ℕ → List Body → Bool
is_rank width arity rank = length rank == width && list_all (uses_below arity) rank

-- the first symbol, the first having that number, without a lawful rank; where there are more ranks
-- than symbols, the number of symbols
abbrev pub bad_from : ℕ → ℕ → List SymInfo → List (List Body) → Option ℕ
bad_from width f [] [] = None
bad_from width f [] (rank ∷ ranks) = Some f
bad_from width f (info ∷ infos) [] = Some f
bad_from width f (info ∷ infos) (rank ∷ ranks) =
    if is_rank width info.arity rank then bad_from width (f + 1) infos ranks else Some f

abbrev pub bad_rank : RuleParts → RankTable → Option ℕ
bad_rank parts table = bad_from table.columns 0 parts.symbols table.ranks
