-- The opening behind the step that generalises the goal.
use Rattle.std.proofs.Common.{◌∙◌, ◌∷◌, [], ap}
use Rattle.rx_inference.specs.declared.step.Step.TheVariants as steps
use Rattle.rx_wider.specs.Tails.{goal_under}
use Rattle.rx_wider.proofs.BareLaws.{bare_begun}
use Rattle.rx_wider.proofs.Walking.{taken_as}
use Rattle.rx_wider.proofs.search.generalise_bare.Goals as goal

pub returns-in_ok-shared_steps-in-Some-clause-begun :
    goal.returns-in_ok-shared_steps-in-Some-clause-begun
returns-in_ok-shared_steps-in-Some-clause-begun g c =
    let parts = c.args.setting.now.rules.now in
    let from = c.args.goal.now in
    let to = c.args.to.now in
    let new = c.try_steps.new.state in
    let taken = c.in-Some.taken in
    bare_begun parts from to c.args.setting.now.kind c.requires.start new taken
    (taken_as parts c.in_ok-state.state (goal_under [] from) new c.as_slice.result.now
    (steps.Generalise to.left to.right to.rows [] [] ∷ [])
    (c.in_ok-state.ensures ∙ ap (goal_under []) c.in_ok-try_clone.ensures)
    (c.as_slice.ensures ∙ ap (λ s. s ∷ []) c.in_ok-generalising.ensures) c.in_ok-taken.field-0
    c.in_ok-taken.ensures.taken taken c.in-Some.is)
    (record { steps = c.in_ok-shared_steps-in-Some.field-0; state = new })
    (λ i. record { steps = c.in_ok-shared_steps-in-Some.ensures i; state = new })
