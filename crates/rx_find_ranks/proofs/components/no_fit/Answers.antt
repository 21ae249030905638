-- No symbol has a polynomial, and no pair is fitted.
use Rattle.std.proofs.Common.{◌∙◌, ap}
use Rattle.rx_anchors.specs.Values.{without_polynomials}
use Rattle.rx_find_ranks.proofs.Joining.{nothing_below}
use Rattle.rx_find_ranks.proofs.components.no_fit.Goals as goal

pub returns : goal.returns
returns c = λ names.
    nothing_below c.args.problem.now.rules.now.symbols names
    (record {
      values = c.in_ok-without_polynomials.field-0;
      holds = c.new.result;
      falls =
          c.new-2.result;
    })
    (c.in_ok-without_polynomials.ensures ∙ ap without_polynomials c.symbols.ensures) c.new.ensures.items
    c.new-2.ensures.items
