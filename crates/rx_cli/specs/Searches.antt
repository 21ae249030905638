-- What comes of searching for a proof: the stated search comes first. Where it finds no plan within
-- its bounds, or where the limits were passed at one of its visits, the wider search follows over the
-- same set, by the same ranking; what it finds is the proof then.
use Rattle.std.specs.Prelude.{ℕ, Option, Some, None, List}
use Rattle.rx_term.specs.declared.rule.Equation.{Equation}
use Rattle.rx_term.specs.declared.rule_set.RuleParts.{RuleParts}
use Rattle.rx_moves.specs.Moves.{Move}
use Rattle.rx_search.specs.Beginning.{used_kind, used_set}
use Rattle.rx_search.specs.Search.{Searched, NoRanks, LargeRanks, Closed, Large, Spent, NoPlan, searched}
use Rattle.rx_wider.specs.Wider.{wider}

-- the moves that the wider search finds, or else what it was before
abbrev pub found_or : Searched → Option (List Move) → Searched
found_or before None = before
found_or before (Some moves) = Closed moves

-- by what the stated search comes to
abbrev pub with_wider : Searched → Option (List Move) → Searched
with_wider NoRanks found = NoRanks
with_wider (LargeRanks rows) found = LargeRanks rows
with_wider (Closed moves) found = Closed moves
with_wider (Large path rows) found = found_or (Large path rows) found
with_wider Spent found = Spent
with_wider NoPlan found = found_or NoPlan found

-- what both searches come to, with one depth and one budget
abbrev pub sought : RuleParts → Equation → ℕ → ℕ → Searched
sought parts goal depth budget =
    with_wider (searched parts goal depth budget)
    (wider (used_kind parts goal) (used_set parts goal) goal depth budget)
