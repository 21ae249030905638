-- The beginning of a search as calls have it, and what is known of it.
use Rattle.std.specs.Prelude.{◌≡◌, Bool, true, Option, Some, None, List, []}
use Rattle.rx_row.specs.declared.row.Row.{Row}
use Rattle.rx_cert.specs.Findings.{Yes}
use Rattle.rx_domain.specs.Keeping.{Keeps, keeping}
use Rattle.rx_domain.specs.Setting.{bad_domain, with_domains}
use Rattle.rx_domain.specs.declared.domains.Domains.{Domains}
use Rattle.rx_find_cover.specs.Coverable.{is_coverable}
use Rattle.rx_find_domains.specs.Finding.{found_domains}
use Rattle.rx_log.specs.Depth.{are_shallow_keeps}
use Rattle.rx_pairs.specs.Inside.{listing}
use Rattle.rx_rank.specs.Ranking.{ranked}
use Rattle.rx_rank.specs.declared.kind.RankingKind.{RankingKind}
use Rattle.rx_rank.specs.declared.kind.RankingKind.TheVariants.{Plain, Wider}
use Rattle.rx_term.specs.declared.rule.Equation.{Equation}
use Rattle.rx_term.specs.declared.rule_set.RuleParts.{RuleParts}
use Rattle.rx_wider_domains.specs.Finding.{wider_domains}
use Rattle.rx_search.specs.Beginning.{Over, Unranked, begun_over, beginning, stated_beginning}
use Rattle.rx_search.specs.Beginning as beginnings
use Rattle.rx_search.specs.declared.beginning.Beginning.{Beginning}
use Rattle.rx_search.specs.declared.beginning.Beginning.TheVariants as begun
use Rattle.rx_search.specs.declared.beginning.Inside.{Inside}

-- ---- domains

-- those that are found for the rules and the goal, or the wider ones
abbrev pub AreRows : RankingKind → RuleParts → Equation → List (List Row) → Type 0
AreRows Plain parts goal rows = rows ≡ found_domains parts goal
AreRows Wider parts goal rows = wider_domains parts goal ≡ Some rows

-- they are these of the rules and the goal: lawful, kept, and by certificates that are at most 200
-- deep
pub record AreFound (kind : RankingKind) (parts : RuleParts) (goal : Equation)
    (domains : Domains) : Type 0 where
  pub rows : AreRows kind parts goal domains.rows
  pub lawful : bad_domain parts.symbols domains.rows ≡ None
  pub keeps : keeping (with_domains parts domains.rows) goal domains.keeps ≡ Keeps
  pub shallow : are_shallow_keeps (Some domains) ≡ true

-- the set is that of the rules with the domains of its kind, and its pairs are listed
pub record IsInside (parts : RuleParts) (goal : Equation) (inside : Inside) : Type 0 where
  pub found : AreFound inside.kind parts goal inside.domains
  pub set : inside.rules ≡ with_domains parts inside.domains.rows
  pub listed : inside.listed ≡ listing inside.rules inside.rules.rules

-- ---- where a search begins

-- inside the domains, unless that is nowhere
abbrev pub begun_unless : Option Bool → List (List Row) → beginnings.Beginning
begun_unless None rows = Over Plain (Some rows)
begun_unless (Some noted) rows = Unranked noted

-- a set that is coverable and has ranks
pub record IsReady (kind : RankingKind) (parts : RuleParts) : Type 0 where
  pub coverable : is_coverable parts ≡ true
  pub ranked : ranked kind parts [] ≡ Yes

-- inside the domains the set is ready; and it begins there or nowhere, by whether something was
-- noted before
abbrev pub BeginsWith : Inside → Bool → Beginning → Type 0
BeginsWith inside noted begun.Bare = ⊥
BeginsWith inside noted (begun.Inside other) = (other ≡ inside) × IsReady Plain inside.rules
    × (begun_over inside.rules noted inside.domains.rows ≡ Over Plain (Some inside.domains.rows))
BeginsWith inside noted (begun.Unranked now) =
    begun_over inside.rules noted inside.domains.rows ≡ Unranked now

-- where it begins is this: over the rules, which have ranks; or inside domains that are found; or
-- nowhere
abbrev pub IsBegunAt : beginnings.Beginning → RuleParts → Equation → Beginning → Type 0
IsBegunAt from parts goal begun.Bare = (from ≡ Over Plain None) × (ranked Plain parts [] ≡ Yes)
IsBegunAt from parts goal (begun.Inside inside) =
    (from ≡ Over inside.kind (Some inside.domains.rows))
    × IsInside parts goal inside
    × IsReady inside.kind inside.rules
IsBegunAt from parts goal (begun.Unranked noted) = from ≡ Unranked noted

-- so before wider domains are looked for
abbrev pub IsStatedBegun : RuleParts → Equation → Beginning → Type 0
IsStatedBegun parts goal b = IsBegunAt (stated_beginning parts goal) parts goal b

abbrev pub IsBegun : RuleParts → Equation → Beginning → Type 0
IsBegun parts goal b = IsBegunAt (beginning parts goal) parts goal b

-- ---- logs

-- a search begins inside these domains, or over the rules as they are, with rankings of some kind
abbrev pub BeginsOver : RuleParts → Equation → Option (List (List Row)) → Type 0
BeginsOver parts goal rows = (kind : RankingKind) × (beginning parts goal ≡ Over kind rows)

-- the rows of a log's domains, if it has some
abbrev pub rows_of : Option Domains → Option (List (List Row))
rows_of None = None
rows_of (Some domains) = Some domains.rows
