-- What a search needs of domains to begin inside them.
use Rattle.std.specs.Prelude.{◌≡◌, true, None, []}
use Rattle.rx_cert.specs.Findings.{Yes}
use Rattle.rx_domain.specs.Keeping.{Keeps, keeping}
use Rattle.rx_domain.specs.Setting.{bad_domain, with_domains}
use Rattle.rx_domain.specs.declared.domains.Domains.{Domains}
use Rattle.rx_find_cover.specs.Coverable.{is_coverable}
use Rattle.rx_find_domains.specs.Kept.{AreAllKeeps}
use Rattle.rx_rank.specs.Ranking.{ranked}
use Rattle.rx_rank.specs.declared.kind.RankingKind.TheVariants.{Wider}
use Rattle.rx_term.specs.declared.rule.Equation.{Equation}
use Rattle.rx_term.specs.declared.rule_set.RuleParts.{RuleParts}

-- each is over the arguments of its symbol; they are kept, with certificates of that; and inside
-- them the rules are coverable and have ranks by the wider ranking
pub record AreReady (parts : RuleParts) (goal : Equation) (d : Domains) : Type 0 where
  pub lawful : bad_domain parts.symbols d.rows ≡ None
  pub keeps : keeping (with_domains parts d.rows) goal d.keeps ≡ Keeps
  pub certificates : AreAllKeeps (with_domains parts d.rows) goal d.keeps
  pub coverable : is_coverable (with_domains parts d.rows) ≡ true
  pub ranked : ranked Wider (with_domains parts d.rows) [] ≡ Yes
