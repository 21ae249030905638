-- The new goal is made of the parts of the step.
use Rattle.std.proofs.Common.{sym, subst}
use Rattle.rx_inference.specs.Forming.{Gives}
use Rattle.rx_inference.specs.Kinds.{formed_on, generalised}
use Rattle.rx_inference.proofs.forming.form_on.Goals as goal

pub returns-in-Generalise : goal.returns-in-Generalise
returns-in-Generalise c =
    let s = c.in-Generalise in
    let a = c.args in
    let here =
    subst (λ ws. Gives c.generalise_to.result
    (generalised a.rules.now a.goal.now (record
    { left = s.left; right = s.right; rows = s.rows }) ws))
    c.as_slice-in-Generalise.ensures c.generalise_to.ensures in
    subst (λ step. Gives c.generalise_to.result
    (formed_on a.rules.now a.goal.now a.hypotheses.now step)) (sym s.is) here
