-- The new goal is an equation, and then what is said of the rows that put it inside is said of the
-- step.
use Rattle.std.proofs.Common.{◌≡◌, ◌∙◌, ap, sym, true, false}
use Rattle.std.proofs.lemmas.Result.{err_from_is_err_and}
use Rattle.rx_term.specs.declared.rule_set.RuleParts.{RuleParts}
use Rattle.rx_inference.specs.Pieces.{is_equation}
use Rattle.rx_steps.specs.Alone.{put_before}
use Rattle.rx_steps.proofs.PostulateLaws.{no_equation, said_inside, unformed_inside}
use Rattle.rx_steps.proofs.applying.allow_postulate.Goals as goal

pub returns-then-not-is_equation : goal.returns-then-not-is_equation
returns-then-not-is_equation c =
    let a = c.args in
    let tested : c.is_equation.result ≡ is_equation c.parts.result.now a.new.now =
    c.is_equation.ensures in
    let is = c.if-not-is_equation.true in
    let no : c.is_equation.result ≡ false = cc in
    let none : is_equation a.rules.now a.new.now ≡ false =
    sym (tested ∙ ap (λ (p : RuleParts). is_equation p a.new.now) c.parts.ensures.parts) ∙ no in
    λ _. no_equation a.rules.now a.state.now c.in-Some.field-0.now a.new.now a.certs.now
    (sym c.in-Some.ensures) none

pub returns-in_err-inside : goal.returns-in_err-inside
returns-in_err-inside c =
    let a = c.args in
    let tested : c.is_equation.result ≡ is_equation c.parts.result.now a.new.now =
    c.is_equation.ensures in
    let is = c.if-not-is_equation.false in
    let yes : c.is_equation.result ≡ true = cc in
    let one : is_equation a.rules.now a.new.now ≡ true =
    sym (tested ∙ ap (λ (p : RuleParts). is_equation p a.new.now) c.parts.ensures.parts) ∙ yes in
    let p = err_from_is_err_and c.from_residual.result c.from_residual.ensures.1 in
    rw (p.1, p.2) (unformed_inside a.rules.now a.state.now c.in-Some.field-0.now a.new.now
    a.certs.now (sym c.in-Some.ensures) one c.in_err-inside.field-0.0
    c.in_err-inside.ensures.forms (put_before a.state.now a.new.now))

pub returns : goal.returns
returns c =
    let a = c.args in
    let tested : c.is_equation.result ≡ is_equation c.parts.result.now a.new.now =
    c.is_equation.ensures in
    let is = c.if-not-is_equation.false in
    let yes : c.is_equation.result ≡ true = cc in
    let one : is_equation a.rules.now a.new.now ≡ true =
    sym (tested ∙ ap (λ (p : RuleParts). is_equation p a.new.now) c.parts.ensures.parts) ∙ yes in
    let forms = c.in_ok-inside.ensures.forms in
    said_inside a.rules.now a.state.now c.in-Some.field-0.now a.new.now a.certs.now
    (sym c.in-Some.ensures) one forms.1 c.in_ok-inside.inside forms.0 c.judge_inside.result
    c.judge_inside.ensures
