-- What is shown follows, at the first goal.
use Rattle.std.proofs.Common.{◌∙◌, ap, subst, sym}
use Rattle.std.specs.Option.{option_copied}
use Rattle.rx_solve.specs.declared.showing.AllShown.TheVariants.{Shown, NotShown, TooLarge}
use Rattle.rx_moves.specs.Outcomes.{Follows}
use Rattle.rx_moves.proofs.OutcomeLaws.{nothing_follows, shown_follows}
use Rattle.rx_settle.proofs.trying.show_formed.Goals as goal

pub returns-in-Ok-Shown-clause-outcome : goal.returns-in-Ok-Shown-clause-outcome
returns-in-Ok-Shown-clause-outcome g c =
    shown_follows c.args.state.now c.args.made c.in-Some.goal.now c.in-Ok-Shown.field-0
    (Shown c.in-Ok-Shown.certs) c.in-Some.ensures c.in-Ok-Shown.ensures.answer
    c.in-Ok-Shown.field-0-is

pub returns-in-Ok-NotShown-clause-outcome : goal.returns-in-Ok-NotShown-clause-outcome
returns-in-Ok-NotShown-clause-outcome g c =
    subst (Follows c.args.state.now c.args.made) (sym c.dropped-in-Ok-NotShown.ensures)
    (shown_follows c.args.state.now c.args.made c.in-Some.goal.now c.in-Ok-NotShown.field-0
    NotShown c.in-Some.ensures c.in-Ok-NotShown.ensures.answer c.in-Ok-NotShown.field-0-is)

pub returns-in-Ok-TooLarge-clause-outcome : goal.returns-in-Ok-TooLarge-clause-outcome
returns-in-Ok-TooLarge-clause-outcome g c =
    subst (Follows c.args.state.now c.args.made) (sym c.dropped-in-Ok-TooLarge.ensures)
    (shown_follows c.args.state.now c.args.made c.in-Some.goal.now c.in-Ok-TooLarge.field-0
    TooLarge c.in-Some.ensures c.in-Ok-TooLarge.ensures.answer c.in-Ok-TooLarge.field-0-is)

pub returns-in_default-clause-outcome : goal.returns-in_default-clause-outcome
returns-in_default-clause-outcome g c =
    subst (Follows c.args.state.now c.args.made) (sym c.dropped.ensures)
    (nothing_follows c.args.state.now c.args.made
    (sym c.first.ensures ∙ ap option_copied c.in_default.is))
