use Rattle.std.proofs.Common.{◌∙◌, ap, get_or}
use Rattle.rx_cli.specs.Examples.{repeats}
use Rattle.rx_cli.proofs.ExampleLaws.{found_status, one_more, tally_more}
use Rattle.rx_cli.proofs.examples.count_proved.Goals as goal

pub loop-number-preserved : goal.loop-number-preserved
loop-number-preserved c = record {
  is =
      tally_more c.loop-number.number c.loop-number.tally c.with_status-tally.result
      c.repeated.result c.loop-number.invariant.is
      (found_status c.args.pairs c.in_ok-statuses.statuses.items c.loop-number.number
      c.repeated.result c.in_ok-statuses.ensures c.loop-number-test.true
      (λ d. c.repeated.ensures d ∙ ap (λ xs. get_or xs (repeats c.loop-number.number) d)
      c.as_slice.ensures.value))
      c.with_status-tally.ensures;
  few =
      one_more c.loop-number.tally c.repeated.result c.loop-number.number c.with_status-tally.result
      c.with_status-tally.ensures c.loop-number.invariant.few;
}
