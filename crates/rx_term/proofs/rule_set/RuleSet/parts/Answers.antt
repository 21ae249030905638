-- What every rule set passes says that its parts are well made.
use Rattle.std.proofs.Common.{◌&&◌, true, ◌≡◌, subst}
use Rattle.std.proofs.lemmas.Bool.{and_parts}
use Rattle.rx_term.specs.Domains.{are_domains}
use Rattle.rx_term.specs.MadeTest.{is_well_made}
use Rattle.rx_term.specs.declared.rule_set.RuleParts.{RuleParts}
use Rattle.rx_term.proofs.MadeLaws.{well_made_by_test}
use Rattle.rx_term.proofs.rule_set.RuleSet.parts.Goals as goal

pub returns-clause-made : goal.returns-clause-made
returns-clause-made c =
    let parts : RuleParts = c.args.self.now in
    let passed = subst (λ (p : RuleParts).
    (is_well_made p && are_domains p.symbols p.domains) ≡ true) c.self.view_is
    c.self.invariant in
    well_made_by_test parts
    (and_parts (is_well_made parts) (are_domains parts.symbols parts.domains) passed).0
