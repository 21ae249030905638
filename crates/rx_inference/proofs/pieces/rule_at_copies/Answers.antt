-- The polynomials in order are those by number.
use Rattle.std.proofs.Common.{◌≡◌, ◌∙◌, ap, subst}
use Rattle.rx_plain.specs.Formed.{Forms}
use Rattle.rx_poly.specs.Substitution.{numbered}
use Rattle.rx_poly.specs.declared.poly_end.PolyEnd.TheVariants.{Large}
use Rattle.rx_term.specs.Variables.{arguments_of}
use Rattle.rx_term.proofs.TogetherLaws.{numbered_in_order}
use Rattle.rx_inference.specs.Pieces.{rule_with}
use Rattle.rx_inference.proofs.pieces.rule_at_copies.Goals as goal

pub returns : goal.returns
returns c =
    let is : c.as_slice.result.now ≡ arguments_of c.args.part.now = c.as_slice.ensures ∙
    c.in_ok-args.ensures in
    let same = ap numbered is ∙ numbered_in_order (arguments_of c.args.part.now) in
    record {
      forms = subst (λ ws. Forms Large c.rule_at_args.result (rule_with ws c.args.rule.now))
          same c.rule_at_args.ensures.forms;
    }
