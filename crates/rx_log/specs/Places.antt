-- The order of lines: at each place some lines may come, and each leads to a place.
use Rattle.std.specs.Prelude.{ℕ, ◌+◌, ◌==◌, if◌then◌else◌, Option, Some, None, List, [], ◌∷◌, length}
use Rattle.rx_log.specs.declared.line.Line.{Line}
use Rattle.rx_log.specs.declared.line.Line.TheVariants as line
use Rattle.rx_log.specs.declared.line_state.LineState.{LineState}
use Rattle.rx_log.specs.declared.line_state.LineState.TheVariants.{AtHeader, InDomains, InKeeps, InCovers, InSteps, InRanks, InPairs, Finished}

-- the place after a line, where such a line may come; the cover of the symbol with this number is
-- next
abbrev pub after_covers : ℕ → Line → ℕ → Option LineState
after_covers next (line.Cover trees) symbol =
    if symbol == next then Some (InCovers (next + 1)) else None
after_covers next (line.Step step) symbol = Some InSteps
after_covers next (line.Ranks columns) symbol = Some (InRanks columns 0)
after_covers next other symbol = None

abbrev pub after_steps : Line → Option LineState
after_steps (line.Step step) = Some InSteps
after_steps (line.Ranks columns) = Some (InRanks columns 0)
after_steps other = None

abbrev pub after_pairs : Line → Option LineState
after_pairs (line.Pair pair) = Some InPairs
after_pairs line.End = Some Finished
after_pairs other = None

-- the rank of the symbol with this number is next, with n columns
abbrev pub after_ranks : ℕ → ℕ → Line → ℕ → Option LineState
after_ranks columns next (line.Rank rank) symbol =
    if symbol == next
    then (if length rank == columns then Some (InRanks columns (next + 1)) else None)
    else None
after_ranks columns next other symbol = after_pairs other

-- the certificates that the domains are kept, as long as they last
abbrev pub after_keeps : Line → ℕ → Option LineState
after_keeps (line.Keep certs) symbol = Some InKeeps
after_keeps other symbol = after_covers 0 other symbol

-- the domain of the symbol with this number is next
abbrev pub after_domains : ℕ → Line → ℕ → Option LineState
after_domains next (line.Domain rows) symbol =
    if symbol == next then Some (InDomains (next + 1)) else None
after_domains next other symbol = after_keeps other symbol

abbrev pub after_header : Line → Option LineState
after_header line.Header = Some (InCovers 0)
after_header line.Header2 = Some (InDomains 0)
after_header other = None

-- the place after a line with its symbol; None where no such line may come
abbrev pub after : LineState → Line × ℕ → Option LineState
after AtHeader it = after_header it.0
after (InDomains next) it = after_domains next it.0 it.1
after InKeeps it = after_keeps it.0 it.1
after (InCovers next) it = after_covers next it.0 it.1
after InSteps it = after_steps it.0
after (InRanks columns next) it = after_ranks columns next it.0 it.1
after InPairs it = after_pairs it.0
after Finished it = None

-- the place after lines one after the other
abbrev pub after_all : Option LineState → List (Line × ℕ) → Option LineState
after_all place [] = place
after_all None (it ∷ its) = None
after_all (Some place) (it ∷ its) = after_all (after place it) its
