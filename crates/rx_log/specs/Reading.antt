-- What lines say of a log, one after the other, and the log as far as they have come.
use Rattle.std.specs.Prelude.{◌≡◌, ℕ, Option, Some, None, option_map, List, [], ◌∷◌, ◌++◌, length}
use Rattle.rx_cert.specs.declared.cert.Cert.{Cert}
use Rattle.rx_domain.specs.declared.domains.Domains.{Domains}
use Rattle.rx_pairs.specs.declared.table.RankTable.{RankTable}
use Rattle.rx_row.specs.declared.row.Row.{Row}
use Rattle.rx_log.specs.Lines.{before_covers, before_end, before_ranks, log_lines}
use Rattle.rx_log.specs.declared.line.Line.{Line}
use Rattle.rx_log.specs.declared.line.Line.TheVariants as line
use Rattle.rx_log.specs.declared.log.Log.{Log}
use Rattle.rx_log.specs.declared.line_state.LineState.{LineState}
use Rattle.rx_log.specs.declared.line_state.LineState.TheVariants.{AtHeader, InDomains, InKeeps, InCovers, InSteps, InRanks, InPairs, Finished}

-- the ranks of no symbols, in one column
abbrev pub no_ranks : RankTable
no_ranks = record { columns = 1; ranks = [] }

-- the log before anything of it was read
abbrev pub blank : Log
blank = record { domains = None; covers = []; steps = []; table = no_ranks; pairs = [] }

-- domains of no symbols
abbrev pub no_domains : Domains
no_domains = record { rows = []; keeps = [] }

-- domains with one more
abbrev pub with_domain : List Row → Domains → Domains
with_domain rows domains = record domains { rows = domains.rows ++ rows ∷ [] }

-- and with certificates for one more part
abbrev pub with_keep : List Cert → Domains → Domains
with_keep certs domains = record domains { keeps = domains.keeps ++ certs ∷ [] }

-- the log with what a line says
abbrev pub pushed : Line → Log → Log
pushed line.Header log = log
pushed line.Header2 log = record log { domains = Some no_domains }
pushed (line.Domain rows) log =
    record log { domains = option_map (with_domain rows) log.domains }
pushed (line.Keep certs) log = record log { domains = option_map (with_keep certs) log.domains }
pushed (line.Cover trees) log = record log { covers = log.covers ++ trees ∷ [] }
pushed (line.Step step) log = record log { steps = log.steps ++ step ∷ [] }
pushed (line.Ranks columns) log = record log { table = record log.table { columns = columns } }
pushed (line.Rank rank) log =
    record log { table = record log.table { ranks = log.table.ranks ++ rank ∷ [] } }
pushed (line.Pair pair) log = record log { pairs = log.pairs ++ pair ∷ [] }
pushed line.End log = log

-- the lines of a log up to a place
abbrev pub lines_to : LineState → Log → List (Line × ℕ)
lines_to AtHeader log = []
lines_to (InDomains next) log = before_covers log.domains
lines_to InKeeps log = before_covers log.domains
lines_to (InCovers next) log = before_ranks log
lines_to InSteps log = before_ranks log
lines_to (InRanks columns next) log = before_end log
lines_to InPairs log = before_end log
lines_to Finished log = log_lines log

-- nothing is known of ranks and pairs yet
abbrev pub IsBeforeRanks : Log → Type 0
IsBeforeRanks log = (log.table ≡ no_ranks) × (log.pairs ≡ [])

-- nor of covers and steps
abbrev pub IsBeforeCovers : Log → Type 0
IsBeforeCovers log = (log.covers ≡ []) × ((log.steps ≡ []) × IsBeforeRanks log)

-- so many domains are known, and no certificate of them
abbrev pub AreDomainsOnly : ℕ → Option Domains → Type 0
AreDomainsOnly count None = ⊥
AreDomainsOnly count (Some domains) = (count ≡ length domains.rows) × (domains.keeps ≡ [])

-- the log has domains
abbrev pub AreThere : Option Domains → Type 0
AreThere None = ⊥
AreThere (Some domains) = Unit {0}

-- the place is the one up to which the log was read
abbrev pub IsAt : LineState → Log → Type 0
IsAt AtHeader log = log ≡ blank
IsAt (InDomains next) log = AreDomainsOnly next log.domains × IsBeforeCovers log
IsAt InKeeps log = AreThere log.domains × IsBeforeCovers log
IsAt (InCovers next) log =
    (next ≡ length log.covers) × ((log.steps ≡ []) × IsBeforeRanks log)
IsAt InSteps log = IsBeforeRanks log
IsAt (InRanks columns next) log =
    (columns ≡ log.table.columns) × ((next ≡ length log.table.ranks) × (log.pairs ≡ []))
IsAt InPairs log = Unit {0}
IsAt Finished log = Unit {0}
