-- Where a search begins: over the rules as they are, where they have ranks; else inside the domains
-- that are found for the goal, where the rules with these are coverable and have ranks; and where
-- that is nowhere, and nothing passed the limits on the way, inside the wider domains, if there are
-- some: the wider ranking finds ranks there.
use Rattle.std.specs.Prelude.{if◌then◌else◌, Bool, true, false, Option, Some, None, List, []}
use Rattle.rx_row.specs.declared.row.Row.{Row}
use Rattle.rx_cert.specs.Findings.{Said, Yes, No, Beyond}
use Rattle.rx_domain.specs.Setting.{with_domains}
use Rattle.rx_find_cover.specs.Coverable.{is_coverable}
use Rattle.rx_find_domains.specs.Finding.{found_domains}
use Rattle.rx_rank.specs.Ranking.{ranked}
use Rattle.rx_rank.specs.declared.kind.RankingKind.{RankingKind}
use Rattle.rx_rank.specs.declared.kind.RankingKind.TheVariants.{Plain, Wider}
use Rattle.rx_term.specs.declared.rule.Equation.{Equation}
use Rattle.rx_term.specs.declared.rule_set.RuleParts.{RuleParts}
use Rattle.rx_wider_domains.specs.Finding.{wider_domains}

-- over the rules, inside these domains if there are some, with rankings of this kind; or nowhere,
-- as no set has ranks and a cover, and whether something passed the limits on the way to the ranks
pub data Beginning : Type 0 where
  Over : RankingKind → Option (List (List Row)) → Beginning
  Unranked : Bool → Beginning

-- ---- with the plain ranking

-- inside the domains, by whether there are ranks there
abbrev pub by_ranks : Bool → List (List Row) → Said → Beginning
by_ranks noted rows Yes = Over Plain (Some rows)
by_ranks noted rows No = Unranked noted
by_ranks noted rows Beyond = Unranked true

-- the rules with their domains; what passes the limits where their cover is looked for counts for
-- nothing
abbrev pub begun_over : RuleParts → Bool → List (List Row) → Beginning
begun_over parts noted rows =
    if is_coverable parts then by_ranks noted rows (ranked Plain parts []) else Unranked noted

abbrev pub begun_inside : RuleParts → Bool → List (List Row) → Beginning
begun_inside parts noted rows = begun_over (with_domains parts rows) noted rows

-- by whether the rules alone have ranks
abbrev pub begun_by : Said → RuleParts → Equation → Beginning
begun_by Yes parts goal = Over Plain None
begun_by No parts goal = begun_inside parts false (found_domains parts goal)
begun_by Beyond parts goal = begun_inside parts true (found_domains parts goal)

unfoldable pub stated_beginning : RuleParts → Equation → Beginning
stated_beginning parts goal = begun_by (ranked Plain parts []) parts goal

-- ---- with the wider ranking

-- inside the wider domains, where there are some
abbrev pub begun_wider : Option (List (List Row)) → Beginning
begun_wider None = Unranked false
begun_wider (Some rows) = Over Wider (Some rows)

-- they are looked for where a search would begin nowhere, and nothing was noted
abbrev pub or_wider : RuleParts → Equation → Beginning → Beginning
or_wider parts goal (Over kind rows) = Over kind rows
or_wider parts goal (Unranked true) = Unranked true
or_wider parts goal (Unranked false) = begun_wider (wider_domains parts goal)

unfoldable pub beginning : RuleParts → Equation → Beginning
beginning parts goal = or_wider parts goal (stated_beginning parts goal)

-- ---- what is searched over

-- the rules, with these domains if there are some
abbrev pub set_of : RuleParts → Option (List (List Row)) → RuleParts
set_of parts None = parts
set_of parts (Some rows) = with_domains parts rows

abbrev pub set_begun : RuleParts → Beginning → RuleParts
set_begun parts (Over kind rows) = set_of parts rows
set_begun parts (Unranked noted) = parts

-- where a search begins nowhere, the rules as they are
abbrev pub used_set : RuleParts → Equation → RuleParts
used_set parts goal = set_begun parts (beginning parts goal)

abbrev pub kind_begun : Beginning → RankingKind
kind_begun (Over kind rows) = kind
kind_begun (Unranked noted) = Plain

-- the ranking that a search goes by; where it begins nowhere, the plain one
abbrev pub used_kind : RuleParts → Equation → RankingKind
used_kind parts goal = kind_begun (beginning parts goal)
