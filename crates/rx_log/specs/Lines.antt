-- The lines of a log, in order, each with the number of the symbol in it.
use Rattle.std.specs.Prelude.{ℕ, ◌+◌, ◌==◌, Bool, Option, Some, None, List, [], ◌∷◌, ◌++◌, length, map}
use Rattle.std.specs.List.{list_all}
use Rattle.rx_domain.specs.declared.domains.Domains.{Domains}
use Rattle.rx_poly.specs.declared.body.Body.{Body}
use Rattle.rx_log.specs.declared.line.Line.{Line}
use Rattle.rx_log.specs.declared.line.Line.TheVariants as line
use Rattle.rx_log.specs.declared.log.Log.{Log}
use Rattle.rx_log.specs.declared.version.Version.{Version}
use Rattle.rx_log.specs.declared.version.Version.TheVariants.{One, Two}

-- version 2 where there are domains
abbrev pub version_by : Option Domains → Version
version_by None = One
version_by (Some domains) = Two

abbrev pub version_of : Log → Version
version_of log = version_by log.domains

-- lines with the numbers of their symbols, from this one on
abbrev pub by_symbol : {A : Type 0} → (A → Line) → ℕ → List A → List (Line × ℕ)
by_symbol make symbol [] = []
by_symbol make symbol (x ∷ xs) = (make x, symbol) ∷ by_symbol make (symbol + 1) xs

-- lines without a symbol
abbrev pub plain : {A : Type 0} → (A → Line) → List A → List (Line × ℕ)
plain make xs = map (λ x. (make x, 0)) xs

-- the first line and, in version 2, the domains and the certificates that they are kept
abbrev pub before_covers : Option Domains → List (Line × ℕ)
before_covers None = (line.Header, 0) ∷ []
before_covers (Some domains) =
    (line.Header2, 0) ∷ (by_symbol line.Domain 0 domains.rows ++ plain line.Keep domains.keeps)

-- these, the covers and the steps
abbrev pub before_ranks : Log → List (Line × ℕ)
before_ranks log =
    before_covers log.domains
    ++ (by_symbol line.Cover 0 log.covers ++ plain line.Step log.steps)

-- the ranks and the pairs
abbrev pub behind_steps : Log → List (Line × ℕ)
behind_steps log =
    (line.Ranks log.table.columns, 0)
    ∷ (by_symbol line.Rank 0 log.table.ranks ++ plain line.Pair log.pairs)

-- all of these
abbrev pub before_end : Log → List (Line × ℕ)
before_end log = before_ranks log ++ behind_steps log

-- the lines of a log, in order
abbrev pub log_lines : Log → List (Line × ℕ)
log_lines log = before_end log ++ (line.End, 0) ∷ []

-- each rank has as many columns as the table
abbrev pub has_widths : Log → Bool
has_widths log = list_all (λ (rank : List Body). length rank == log.table.columns) log.table.ranks
