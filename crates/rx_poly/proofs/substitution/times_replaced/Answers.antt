-- A variable that stays has the multiple as a term of its own.
use Rattle.std.proofs.Common.{◌≡◌, ◌∙◌, ap, sym}
use Rattle.rx_poly.specs.Constants.{variable_times}
use Rattle.rx_poly.specs.Limits.{is_within, scaled_by}
use Rattle.rx_poly.specs.Normal.{is_poly}
use Rattle.rx_poly.specs.Replacements.{replacements}
use Rattle.rx_poly.specs.Substitution.{replaced}
use Rattle.rx_poly.proofs.Constants.{variable_poly}
use Rattle.rx_poly.proofs.Multiples.{variable_scaled}
use Rattle.rx_poly.proofs.Neutral.{poly_within}
use Rattle.rx_poly.proofs.substitution.times_replaced.Goals as goal

pub returns-in_err-multiple-in-None-clause-normal : goal.returns-in_err-multiple-in-None-clause-normal
returns-in_err-multiple-in-None-clause-normal c = ap is_poly c.in-None.ensures ∙ variable_poly c.args.at

pub returns-in_ok-multiple-in-None-clause-normal : goal.returns-in_ok-multiple-in-None-clause-normal
returns-in_ok-multiple-in-None-clause-normal c = ap is_poly c.in-None.ensures ∙ variable_poly c.args.at

pub returns-in_ok-multiple-in-None-clause-forms : goal.returns-in_ok-multiple-in-None-clause-forms
returns-in_ok-multiple-in-None-clause-forms c =
    let k = c.args.by.now in
    let scaled : scaled_by k (replaced (replacements c.args.with) c.args.at) ≡
    variable_times k c.args.at =
    ap (scaled_by k) c.in-None.ensures ∙ variable_scaled k c.args.at c.requires in
    let made = c.in_ok-multiple-in-None.ensures ∙ sym scaled in (
      made,
      ap is_within (sym made) ∙ poly_within c.in_ok-multiple-in-None.multiple c.as_normal-in-None.ensures.normal,
    )
