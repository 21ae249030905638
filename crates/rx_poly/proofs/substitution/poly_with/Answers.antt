-- A variable alone becomes what is in its place. Where all variables stay, so does the polynomial,
-- and nothing on the way passes the limits.
use Rattle.std.proofs.Common.{◌∙◌, ap, sym}
use Rattle.rx_poly.specs.Replacements.{replacements, body_stays}
use Rattle.rx_poly.specs.Variables.{variables}
use Rattle.rx_poly.proofs.Staying.{all_stays}
use Rattle.rx_poly.proofs.Unchanged.{same_form, all_within}
use Rattle.rx_poly.proofs.substitution.poly_with.Goals as goal

pub returns-then-body_stays : goal.returns-then-body_stays
returns-then-body_stays c =
    let ws = replacements c.args.with in
    let st = all_stays ws (variables c.args.poly.now)
    (ap (body_stays ws) (sym c.body.ensures.body) ∙ sym c.body_stays.ensures ∙ c.if-body_stays.true)
    in
    record {
      forms = (
        c.in_ok-try_clone-2.ensures ∙ sym (same_form ws c.args.poly.now c.body.ensures.normal st),
        all_within ws c.args.poly.now c.body.ensures.normal st,
      );
    }
