-- The lemma is posed, or it can't be.
use Rattle.std.proofs.Common.{◌∙◌, ◌∷◌, [], ap}
use Rattle.std.proofs.lemmas.Result.{IfOk-weaker}
use Rattle.rx_inference.specs.declared.step.Step.TheVariants as steps
use Rattle.rx_wider.specs.Reached.{Poses}
use Rattle.rx_wider.proofs.Walking.{takes_as}
use Rattle.rx_wider.proofs.lemmas.pose.Goals as goal

pub returns-clause-posed : goal.returns-clause-posed
returns-clause-posed g c =
    let parts = c.args.setting.now.rules.now in
    let lemma = c.args.lemma.now in
    IfOk-weaker c.try_steps.result _ (Poses parts c.args.begun.now.state lemma)
    (λ o takes. (
      c.try_steps.new.state,
      takes_as parts c.in_ok-state.state c.args.begun.now.state c.try_steps.new.state
          c.as_slice.result.now (steps.Postulate lemma.left lemma.right lemma.rows [] ∷ [])
          c.in_ok-state.ensures
          (c.as_slice.ensures ∙ ap (λ s. s ∷ []) c.in_ok-posing.ensures) o takes,
    ))
    c.try_steps.ensures.taken
