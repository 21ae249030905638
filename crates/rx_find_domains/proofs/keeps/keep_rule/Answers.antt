-- The rows are formed within the limits, and shown under those that are given.
use Rattle.std.proofs.Common.{◌≡◌, ◌∙◌, List, ap, subst, sym}
use Rattle.std.proofs.lemmas.Bool.{false≢true}
use Rattle.std.specs.Result.{IfOk}
use Rattle.rx_cert.specs.Showing.{all_shown}
use Rattle.rx_domain.specs.Keeping.{rule_part}
use Rattle.rx_row.specs.declared.row.Row.{Row}
use Rattle.rx_solve.specs.Answers.{AreCertificates}
use Rattle.rx_solve.specs.Bounds.{most_deep}
use Rattle.rx_solve.specs.Refuter.{refuted}
use Rattle.rx_term.specs.declared.rule_set.RuleParts.{RuleParts}
use Rattle.rx_find_domains.proofs.KeepLaws.{rule_given_is}
use Rattle.rx_find_domains.proofs.keeps.keep_rule.Goals as goal

pub certify-requires-clause-shown : goal.certify-requires-clause-shown
certify-requires-clause-shown g c =
    let part = rule_part c.args.rules.now c.args.rule.now in
    let given : c.in_ok-given.given ≡ part.given =
    rule_given_is c.args.rules.now c.args.rule.now c.in_ok-sides.sides c.as_slice-domains.result.now
    c.in_ok-given.given c.in_ok-sides.ensures
    (c.as_slice-domains.ensures ∙ ap (λ (p : RuleParts). p.domains) c.parts-parts.ensures.parts)
    c.in_ok-given.ensures in
    let asked : c.as_slice.result.now ≡ part.asked.form =
    c.as_slice.ensures ∙ c.in-Ok.ensures.forms.0 in
    (λ i. all_shown refuted (given i) (asked i)) ∙ c.requires.shown.shows

pub returns-in-Ok-clause-keeps : goal.returns-in-Ok-clause-keeps
returns-in-Ok-clause-keeps g c =
    let part = rule_part c.args.rules.now c.args.rule.now in
    let given : c.in_ok-given.given ≡ part.given =
    rule_given_is c.args.rules.now c.args.rule.now c.in_ok-sides.sides c.as_slice-domains.result.now
    c.in_ok-given.given c.in_ok-sides.ensures
    (c.as_slice-domains.ensures ∙ ap (λ (p : RuleParts). p.domains) c.parts-parts.ensures.parts)
    c.in_ok-given.ensures in
    subst (λ (rows : List Row). IfOk c.certify.result (λ certs.
    AreCertificates most_deep part.given rows certs))
    (c.as_slice.ensures ∙ c.in-Ok.ensures.forms.0)
    (subst (λ (rows : List Row). IfOk c.certify.result (λ certs.
    AreCertificates most_deep rows c.as_slice.result.now certs)) given c.certify.ensures.certs)

pub unreachable-requires : goal.unreachable-requires
unreachable-requires g c =
    false≢true (sym (c.in-Err-Large.ensures.forms c.in-Err-Large.field-0-is) ∙
    c.requires.shown.within)
