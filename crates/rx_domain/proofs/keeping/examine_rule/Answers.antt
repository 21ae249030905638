-- The given rows are those of the part, and the others are formed within the limits.
use Rattle.std.proofs.Common.{◌≡◌, ◌∙◌, subst}
use Rattle.std.specs.Prelude.{IfErr}
use Rattle.rx_cert.specs.Findings.{Beyond, Said}
use Rattle.rx_poly.specs.declared.poly_end.PolyEnd.TheVariants as end
use Rattle.rx_domain.specs.Keeping.{rule_part}
use Rattle.rx_domain.proofs.Turns.{part_is}
use Rattle.rx_domain.proofs.keeping.examine_rule.Goals as goal

pub returns-clause-large : goal.returns-clause-large
returns-clause-large c =
    let forms = c.in_ok-asked.ensures.forms in
    subst (λ (s : Said). IfErr c.is_shown.result (λ e. e ≡ end.Large → s ≡ Beyond))
    (part_is (rule_part c.args.rules.now c.args.rule.now) c.args.certs.now c.in_ok-given.given
    c.as_slice.result.now c.in_ok-given.ensures (c.as_slice.ensures ∙ forms.0, forms.1))
    c.is_shown.ensures.large
