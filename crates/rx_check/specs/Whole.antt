-- A whole log that is replayed line by line: what is kept when some of its lines have come.
use Rattle.std.specs.Prelude.{◌≡◌, ℕ, All, Option, option_map, List, [], ◌++◌, length}
use Rattle.rx_poly.specs.declared.body.Body.{Body}
use Rattle.rx_cert.specs.declared.cert.Cert.{Cert}
use Rattle.rx_cover.specs.declared.cover_tree.CoverTree.{CoverTree}
use Rattle.rx_domain.specs.declared.domains.Domains.{Domains}
use Rattle.rx_inference.specs.declared.step.Step.{Step}
use Rattle.rx_pairs.specs.declared.pair_cert.PairCert.{PairCert}
use Rattle.rx_row.specs.declared.row.Row.{Row}
use Rattle.rx_term.specs.declared.rule.Equation.{Equation}
use Rattle.rx_term.specs.declared.rule_set.RuleParts.{RuleParts}
use Rattle.rx_log.specs.declared.line.Line.{Line}
use Rattle.rx_log.specs.Reading.{blank}
use Rattle.rx_log.specs.declared.line_state.LineState.{LineState}
use Rattle.rx_log.specs.declared.line_state.LineState.TheVariants.{AtHeader, InDomains, InKeeps, InCovers, InSteps, InRanks, InPairs, Finished}
use Rattle.rx_log.specs.declared.log.Log.{Log}
use Rattle.rx_check.specs.Replay.{StandsFor, log_of}
use Rattle.rx_check.specs.declared.replayer.Replayer.{Replayer}

-- ---- places

-- at this place certificates that the domains are kept may come
abbrev pub IsInside : LineState → Type 0
IsInside AtHeader = ⊥
IsInside (InDomains next) = Unit {0}
IsInside InKeeps = Unit {0}
IsInside (InCovers next) = ⊥
IsInside InSteps = ⊥
IsInside (InRanks columns next) = ⊥
IsInside InPairs = ⊥
IsInside Finished = ⊥

-- at this place the trees of the symbol with that number may come
abbrev pub AwaitsCover : ℕ → LineState → Type 0
AwaitsCover symbol AtHeader = ⊥
AwaitsCover symbol (InDomains next) = symbol ≡ 0
AwaitsCover symbol InKeeps = symbol ≡ 0
AwaitsCover symbol (InCovers next) = symbol ≡ next
AwaitsCover symbol InSteps = ⊥
AwaitsCover symbol (InRanks columns next) = ⊥
AwaitsCover symbol InPairs = ⊥
AwaitsCover symbol Finished = ⊥

-- ---- logs

-- the log with these domains after its own, if it has any
abbrev pub with_lists : Log → List (List Row) → Log
with_lists log lists = record log {
  domains = option_map (λ (domains : Domains).
      record domains { rows = domains.rows ++ lists }) log.domains;
}

-- the log with these certificates that domains are kept after its own, if it has any
abbrev pub with_keeps : Log → List (List Cert) → Log
with_keeps log keeps = record log {
  domains = option_map (λ (domains : Domains).
      record domains { keeps = domains.keeps ++ keeps }) log.domains;
}

-- the log of which nothing but domains is known
abbrev pub domains_alone : Option Domains → Log
domains_alone domains = record blank { domains = domains }

-- the log with these lists of trees after its own
abbrev pub with_covers : Log → List (List CoverTree) → Log
with_covers log covers = record log { covers = log.covers ++ covers }

-- the log with these steps after its own
abbrev pub with_steps : Log → List Step → Log
with_steps log steps = record log { steps = log.steps ++ steps }

-- the log with these ranks after its own
abbrev pub with_ranks : Log → List (List Body) → Log
with_ranks log ranks = record log { table = record log.table { ranks = log.table.ranks ++ ranks } }

-- the log with these certificates of pairs after its own
abbrev pub with_pairs : Log → List PairCert → Log
with_pairs log pairs = record log { pairs = log.pairs ++ pairs }

-- the log up to the line that begins the ranks
abbrev pub front_of : Log → Log
front_of log = record {
  domains = log.domains;
  covers = log.covers;
  steps = log.steps;
  table = record { columns = log.table.columns; ranks = [] };
  pairs = [];
}

-- each rank has as many columns as the table
abbrev pub HasWidths : ℕ → List (List Body) → Type 0
HasWidths columns ranks = All (λ (rank : List Body). length rank ≡ columns) ranks

-- what is kept is what some lines give for the rules and the goal, and these are the log so far
pub record Replays (replayer : Replayer) (parts : RuleParts) (goal : Equation) (log : Log) : Type 0
  where
    pub its : List (Line × ℕ)
    pub stands : StandsFor replayer parts goal its
    pub are : log_of its ≡ log
