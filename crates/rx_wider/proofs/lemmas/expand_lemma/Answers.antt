-- The hypotheses of the expanded lemma.
use Rattle.std.proofs.Common.{◌∷◌, [], true}
use Rattle.rx_inference.specs.declared.step.Side.TheVariants.{Left}
use Rattle.rx_inference.specs.declared.step.Step.TheVariants as steps
use Rattle.rx_wider.specs.Tails.{goal_under}
use Rattle.rx_wider.proofs.Openings.{kept_fit, kept_rooted}
use Rattle.rx_wider.proofs.Walking.{taken_as}
use Rattle.rx_wider.proofs.lemmas.expand_lemma.Goals as goal

pub is_ranked-requires-clause-roots : goal.is_ranked-requires-clause-roots
is_ranked-requires-clause-roots g c =
    let parts = c.args.setting.now.rules.now in
    let hypotheses = c.args.begun.now.state.hypotheses in
    kept_rooted parts hypotheses c.args.lemma.now c.requires.posed c.try_steps.new.state
    c.in-Some.taken
    (taken_as parts c.in_ok-state.state (goal_under hypotheses c.args.lemma.now)
    c.try_steps.new.state c.as_slice.result.now (steps.Expand Left true ∷ [])
    c.in_ok-state.ensures c.as_slice.ensures c.in_ok-taken.field-0 c.in_ok-taken.ensures.taken
    c.in-Some.taken c.in-Some.is)

pub is_ranked-requires-clause-fits : goal.is_ranked-requires-clause-fits
is_ranked-requires-clause-fits g c =
    let parts = c.args.setting.now.rules.now in
    let hypotheses = c.args.begun.now.state.hypotheses in
    kept_fit parts hypotheses c.args.lemma.now c.requires.posed c.try_steps.new.state
    c.in-Some.taken
    (taken_as parts c.in_ok-state.state (goal_under hypotheses c.args.lemma.now)
    c.try_steps.new.state c.as_slice.result.now (steps.Expand Left true ∷ [])
    c.in_ok-state.ensures c.as_slice.ensures c.in_ok-taken.field-0 c.in_ok-taken.ensures.taken
    c.in-Some.taken c.in-Some.is)
