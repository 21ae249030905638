-- Both tests passed, and the first says that the parts are well made.
use Rattle.std.proofs.Common.{refl, sym, ◌∙◌}
use Rattle.rx_term.proofs.MadeLaws.{well_made_by_test}
use Rattle.rx_term.proofs.rule_set.RuleSet.from_parts.Goals as goal

pub returns-then-has_domains-clause-exact : goal.returns-then-has_domains-clause-exact
returns-then-has_domains-clause-exact c = (
  λ e. (
    well_made_by_test c.args.parts (sym c.is_well_made.ensures ∙ c.if-is_well_made.true),
    sym c.has_domains.ensures ∙ c.if-has_domains.true,
  ),
  λ made. refl,
)
