-- A pair is lower by a column of the table: the columns before it hold, and it falls.
use Rattle.std.specs.Prelude.{Bool, ◌&&◌, if◌then◌else◌, ℕ, zero, suc, nat_le, nat_lt, Some, List, [], ◌∷◌, ◌++◌, length, ℤ}
use Rattle.rx_plain.specs.Formed.{Formed, pure, ◌>>=◌, ◌<$>◌}
use Rattle.rx_poly.specs.declared.body.Body.{Body}
use Rattle.rx_cert.specs.Conditions.{conditions, is_shown}
use Rattle.rx_cert.specs.Findings.{Said, Yes, No, Beyond, guard}
use Rattle.rx_cert.specs.declared.cert.Cert.{Cert}
use Rattle.rx_row.specs.declared.row.Row.{Row}
use Rattle.rx_rewriting.specs.Ranks.{RankLess}
use Rattle.rx_term.specs.Meaning.{values}
use Rattle.rx_pairs.specs.Columns.{falls_rows, holds_rows}
use Rattle.rx_pairs.specs.Ranks.{columns_of, rank_of}
use Rattle.rx_pairs.specs.declared.pair.Pair.{Pair}
use Rattle.rx_pairs.specs.declared.pair_cert.PairCert.{PairCert}
use Rattle.rx_pairs.specs.declared.table.RankTable.{RankTable}

-- there is such a column, counted from 1, on the left and on the right
abbrev pub has_column : ℕ → List Body → List Body → Bool
has_column j ps qs = nat_lt 0 j && (nat_le j (length ps) && nat_le j (length qs))

-- those rows, and then the others
abbrev pub prefixed : List Row → Formed (List Row) → Formed (List Row)
prefixed rows others = (λ rest. rows ++ rest) <$> others

-- the rows that are asked for by that column: those of each column before it, and then its own
abbrev pub lower_rows : Pair → ℕ → List Body → List Body → Formed (List Row)
lower_rows pair zero ps qs = pure []
lower_rows pair (suc j) [] qs = pure []
lower_rows pair (suc j) (p ∷ ps) [] = pure []
lower_rows pair (suc zero) (p ∷ ps) (q ∷ qs) = falls_rows pair p q
lower_rows pair (suc (suc j)) (p ∷ ps) (q ∷ qs) = do
  rows ← holds_rows pair p q
  prefixed rows (lower_rows pair (suc j) ps qs)

-- all rows are formed first, and then shown under the pair's
abbrev pub rows_finding : Pair → Formed (List Row) → List Cert → Said
rows_finding pair rows certs =
    guard rows.within (is_shown (conditions pair.phi (Some rows.form) certs))

-- the pair is lower by a column of columns on the left and on the right
abbrev pub column_finding : Pair → ℕ → List Body → List Body → List Cert → Said
column_finding pair j ps qs certs =
    if has_column j ps qs then rows_finding pair (lower_rows pair j ps qs) certs else No

-- and so by a column of the table
abbrev pub lower_finding : Pair → RankTable → PairCert → Said
lower_finding pair table cert =
    column_finding pair cert.column (columns_of table pair.left.0) (columns_of table pair.right.0)
    cert.certs

-- at an assignment the rank on the right is below that on the left
abbrev pub IsLower : RankTable → (ℕ → ℤ) → Pair → Type 0
IsLower table a pair =
    RankLess (rank_of table pair.right.0 (values a pair.right_args))
    (rank_of table pair.left.0 (values a pair.left_args))

-- ---- all pairs

-- each pair is lower, or the first that isn't, or the first at which the limits are passed
pub data Descent : Type 0 where
  Descends : Descent
  NotLower : ℕ → Descent
  PassesLimits : ℕ → Descent

abbrev pub goes_on : ℕ → Said → Descent → Descent
goes_on i Beyond rest = PassesLimits i
goes_on i Yes rest = rest
goes_on i No rest = NotLower i
