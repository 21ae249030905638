-- What rounds do with the columns and the pairs.
use Rattle.std.specs.Prelude.{◌≡◌, ◌<◌, ◌≤◌, ◌+◌, ℕ, List, [], All, length}
use Rattle.rx_graph.specs.Graph.{IsOver}
use Rattle.rx_pairs.specs.Graph.{edges_of}
use Rattle.rx_pairs.specs.declared.pair.Pair.{Pair}
use Rattle.rx_find_ranks.specs.Tables.{IsLawful, IsSplit, pairs_open}
use Rattle.rx_find_ranks.specs.Columns.{columns_in}
use Rattle.rx_find_ranks.specs.declared.progress.Progress.{Progress}
use Rattle.rx_term.specs.declared.rule_set.SymInfo.{SymInfo}

-- each pair is open or closed by the columns
abbrev pub IsSplitBy : List Pair → Progress → Type 0
IsSplitBy pairs progress =
    IsSplit pairs (columns_in progress.columns.items) progress.entries.items progress.closed.items

-- the columns are lawful for the symbols
abbrev pub AreLawful : List SymInfo → Progress → Type 0
AreLawful infos progress = All (IsLawful infos) (columns_in progress.columns.items)

-- the open pairs are of n symbols
abbrev pub AreOver : ℕ → Progress → Type 0
AreOver n progress = IsOver n (edges_of (pairs_open progress.entries.items))

-- at first there is no column, and all pairs are open
pub record IsBegun (pairs : List Pair) (progress : Progress) : Type 0 where
  pub columns : progress.columns.items ≡ []
  pub all : pairs_open progress.entries.items ≡ pairs
  pub split : IsSplitBy pairs progress

-- one column more
pub record IsGrown (infos : List SymInfo) (before after : Progress) : Type 0 where
  pub count : length after.columns.items ≡ length before.columns.items + 1
  pub split : (pairs : List Pair) → IsSplitBy pairs before → IsSplitBy pairs after
  pub lawful : AreLawful infos before → AreLawful infos after
  pub over : AreOver (length infos) before → AreOver (length infos) after

-- the same columns, or one more
pub record IsGrownOrSame (infos : List SymInfo) (before after : Progress) : Type 0 where
  pub count : length after.columns.items ≤ length before.columns.items + 1
  pub split : (pairs : List Pair) → IsSplitBy pairs before → IsSplitBy pairs after
  pub lawful : AreLawful infos before → AreLawful infos after
  pub over : AreOver (length infos) before → AreOver (length infos) after

-- no column is gone, and where a round was left there is one more
pub record IsLonger (left : ℕ) (before after : Progress) : Type 0 where
  pub kept : length before.columns.items ≤ length after.columns.items
  pub longer : 0 < left → length before.columns.items < length after.columns.items

-- at last no pair is open, and there are at most fifteen columns
pub record IsRanked (infos : List SymInfo) (before after : Progress) : Type 0 where
  pub count : length after.columns.items ≤ 15
  pub none : after.entries.items ≡ []
  pub split : (pairs : List Pair) → IsSplitBy pairs before → IsSplitBy pairs after
  pub lawful : AreLawful infos before → AreLawful infos after
