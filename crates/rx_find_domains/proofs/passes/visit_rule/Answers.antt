-- By what is given of the rule.
use Rattle.std.proofs.Common.{◌≡◌, subst}
use Rattle.std.specs.Prelude.{OnOk}
use Rattle.std.specs.List.{fold}
use Rattle.rx_find_domains.specs.Finding.{at_occurrence}
use Rattle.rx_find_domains.specs.Parts.{occurrences_of}
use Rattle.rx_find_domains.specs.declared.given.Given.{Given}
use Rattle.rx_find_domains.proofs.passes.visit_rule.Goals as goal

pub returns-clause-lists : goal.returns-clause-lists
returns-clause-lists g c =
    subst (λ (own : Given). OnOk c.visit_term.result (c.visit_term.new.lists.items ≡
    fold (at_occurrence own) c.args.lists.now.items (occurrences_of c.args.rule.now.right)))
    c.in_ok-given.ensures c.visit_term.ensures.lists
