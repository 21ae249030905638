-- The wider domains that are found. Lists of rows serve where the rules with the domains that are
-- settled from them are coverable and have ranks by the wider ranking. Where the longer lists serve, each of their rows
-- is left out in turn if they serve without it.
use Rattle.std.specs.Prelude.{ℕ, ◌+◌, Bool, ◌&&◌, if◌then◌else◌, Option, Some, None, List, [], ◌∷◌, ◌++◌, map, reverse, take}
use Rattle.std.specs.List.{fold}
use Rattle.rx_row.specs.declared.row.Row.{Row}
use Rattle.rx_domain.specs.Setting.{with_domains}
use Rattle.rx_find_cover.specs.Coverable.{is_coverable}
use Rattle.rx_find_domains.specs.Finding.{is_yes, settled, without}
use Rattle.rx_rank.specs.Ranking.{ranked}
use Rattle.rx_rank.specs.declared.kind.RankingKind.TheVariants.{Wider}
use Rattle.rx_term.specs.declared.rule.Equation.{Equation}
use Rattle.rx_term.specs.declared.rule_set.RuleParts.{RuleParts}
use Rattle.rx_wider_domains.specs.Groups.{by_symbol}
use Rattle.rx_wider_domains.specs.Lists.{wider_lists}

-- ---- whether lists serve

-- a search can begin over the rules
abbrev pub is_ready : RuleParts → Bool
is_ready parts = is_coverable parts && is_yes (ranked Wider parts [])

module _ (parts : RuleParts) (goal : Equation) where
  -- the domains that come of the lists
  abbrev pub domains_of : List (List Row) → List (List Row)
  domains_of lists = settled parts goal (by_symbol parts lists)

  unfoldable pub serves : List (List Row) → Bool
  serves lists = is_ready (with_domains parts (domains_of lists))

-- ---- leaving out

-- each row with the number of its list
abbrev pub numbered : ℕ → List Row → List (ℕ × Row)
numbered f rows = map (λ (row : Row). (f, row)) rows

-- those of all lists, the first having that number
abbrev pub numbered_from : ℕ → List (List Row) → List (ℕ × Row)
numbered_from f [] = []
numbered_from f (rows ∷ lists) = numbered f rows ++ numbered_from (f + 1) lists

-- no more rows are tried
abbrev pub most_tried : ℕ
most_tried = 128

-- from the last list to the first, in each from the last row to the first
abbrev pub tried : List (List Row) → List (ℕ × Row)
tried lists = take most_tried (reverse (numbered_from 0 lists))

module _ (parts : RuleParts) (goal : Equation) where
  -- the lists without the row where these serve, else as they are
  abbrev pub leaving : List (List Row) → ℕ × Row → List (List Row)
  leaving lists at =
      if serves parts goal (without lists at.0 at.1) then without lists at.0 at.1 else lists

  unfoldable pub left_out : List (List Row) → List (List Row)
  left_out lists = fold leaving lists (tried lists)

  -- ---- the domains

  abbrev pub domains_by : List (List Row) → Option (List (List Row))
  domains_by lists =
      if serves parts goal lists then Some (domains_of parts goal (left_out lists)) else None

unfoldable pub wider_domains : RuleParts → Equation → Option (List (List Row))
wider_domains parts goal = domains_by parts goal (wider_lists parts goal)
