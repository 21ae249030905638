-- A part that isn't the goal is a rule, if it is there.
use Rattle.std.proofs.Common.{◌≡◌, sym, subst, ◌-◌}
use Rattle.std.specs.Prelude.{IfErr, IfOk}
use Rattle.rx_cert.specs.Findings.{Beyond, Said, said}
use Rattle.rx_poly.specs.declared.poly_end.PolyEnd.TheVariants as end
use Rattle.rx_term.proofs.Places.{at_some}
use Rattle.rx_domain.proofs.Turns.{of_none, of_rule}
use Rattle.rx_domain.proofs.keeping.examine_part.Goals as goal

pub returns-in-Some-clause-answer : goal.returns-in-Some-clause-answer
returns-in-Some-clause-answer c =
    let is =
    of_rule c.args.rules.now c.args.goal.now c.args.certs.now c.args.part c.if-part-eq0.false
    c.rules.result.now c.rules.ensures c.in-Some.rule.now
    (at_some c.rules.result.now (c.args.part - 1) c.in-Some.rule.now c.in-Some.rule.now
    c.in-Some.ensures.lookup.3.0 c.in-Some.ensures.lookup.1) in
    subst (λ (s : Said). IfOk c.examine_rule.result (λ b. s ≡ said b)) (sym is)
    c.examine_rule.ensures.answer

pub returns-in-Some-clause-large : goal.returns-in-Some-clause-large
returns-in-Some-clause-large c =
    let is =
    of_rule c.args.rules.now c.args.goal.now c.args.certs.now c.args.part c.if-part-eq0.false
    c.rules.result.now c.rules.ensures c.in-Some.rule.now
    (at_some c.rules.result.now (c.args.part - 1) c.in-Some.rule.now c.in-Some.rule.now
    c.in-Some.ensures.lookup.3.0 c.in-Some.ensures.lookup.1) in
    subst (λ (s : Said). IfErr c.examine_rule.result (λ e. e ≡ end.Large → s ≡ Beyond)) (sym is)
    c.examine_rule.ensures.large

pub returns-in-None-clause-answer : goal.returns-in-None-clause-answer
returns-in-None-clause-answer c =
    of_none c.args.rules.now c.args.goal.now c.args.certs.now c.args.part c.if-part-eq0.false
    c.rules.result.now c.rules.ensures c.in-None.ensures.lookup.3
