-- Where there is no term and no `0`, there is no sum.
use Rattle.std.proofs.Common.{◌≡◌, ◌∙◌, ap, sym, ◌∷◌, drop}
use Rattle.std.proofs.lemmas.Bool.{both_ways}
use Rattle.rx_text.specs.Formats.{is_over}
use Rattle.rx_text.specs.Plain.{is_plain_inside}
use Rattle.rx_text.specs.Polynomials.{goes_on_with_poly}
use Rattle.rx_text.proofs.Nesting.{inside_unambiguous}
use Rattle.rx_text.proofs.Sums.{no_sum}
use Rattle.rx_text.proofs.poly_reader.read_zero.Goals as goal

pub returns-in_default : goal.returns-in_default
returns-in_default c =
    no_sum (is_plain_inside c.args.depth) (inside_unambiguous c.args.depth) c.args.bytes.now
    c.args.at c.requires
    (λ left e o. c.in_default.ensures left e)

pub returns-else-ends_poly : goal.returns-else-ends_poly
returns-else-ends_poly c =
    no_sum (is_plain_inside c.args.depth) (inside_unambiguous c.args.depth) c.args.bytes.now
    c.args.at c.requires
    (λ left e o.
    let both : 48 ∷ drop c.in-Some.end c.args.bytes.now ≡ 48 ∷ left =
    sym c.in-Some.ensures.1.1 ∙ e in
    let same : drop c.in-Some.end c.args.bytes.now ≡ left = cc in
    both_ways (is_over goes_on_with_poly left)
    (ap (is_over goes_on_with_poly) (sym same) ∙ sym c.ends_poly.ensures ∙ c.if-ends_poly.false) o)
