-- What is shown of the rows decides.
use Rattle.std.proofs.Common.{◌∙◌, ap, [], ◌∷◌}
use Rattle.rx_inference.specs.Pieces.{asking}
use Rattle.rx_solve.specs.declared.showing.AllShown.TheVariants.{NotShown, TooLarge}
use Rattle.rx_moves.proofs.RuleStepLaws.{rows_follow, shown_made}
use Rattle.rx_moves.proofs.rule_steps.show_instance.Goals as goal

pub returns-in_ok-made-in-Shown-clause-outcome : goal.returns-in_ok-made-in-Shown-clause-outcome
returns-in_ok-made-in-Shown-clause-outcome g c =
    shown_made c.args.goal.now c.args.side c.args.instance c.in_ok-certs.field-0 _
    c.as_slice.ensures c.in_ok-certs.ensures.answer c.in-Shown.certs _ c.in-Shown.is
    (c.in_ok-made-in-Shown.ensures ∙ ap (λ next. asking c.args.instance.rows (next ∷ []))
    c.in_ok-next-in-Shown.ensures)

pub returns-in-NotShown-clause-outcome : goal.returns-in-NotShown-clause-outcome
returns-in-NotShown-clause-outcome g c =
    rows_follow c.args.goal.now c.args.side c.args.instance c.in_ok-certs.field-0 _
    c.as_slice.ensures c.in_ok-certs.ensures.answer NotShown c.in-NotShown.is

pub returns-in-TooLarge-clause-outcome : goal.returns-in-TooLarge-clause-outcome
returns-in-TooLarge-clause-outcome g c =
    rows_follow c.args.goal.now c.args.side c.args.instance c.in_ok-certs.field-0 _
    c.as_slice.ensures c.in_ok-certs.ensures.answer TooLarge c.in-TooLarge.is
