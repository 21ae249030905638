-- A pass that sets nothing is the last; another leaves it to those after it.
use Rattle.std.proofs.Common.{◌≡◌, ◌∙◌, sym, length}
use Rattle.rx_match.proofs.PassLaws.{after_pass, last_pass}
use Rattle.rx_match.proofs.equations.pass_often.Goals as goal

pub returns-then-len-before : goal.returns-then-len-before
returns-then-len-before c =
    let same : length c.in_ok-settings.settings ≡ length c.loop.settings = sym c.len.ensures ∙
    c.if-len-before.true ∙ c.len-before.ensures in
    record {
      forms =
          last_pass (length c.args.rows.now) c.loop.counter c.loop-test.true
          c.loop.invariant.passing
          c.in_ok-settings.ensures.forms.0 c.in_ok-settings.ensures.forms.1 same;
    }

pub loop-preserved : goal.loop-preserved
loop-preserved c = record {
  count = c.loop.invariant.count;
  passing =
      after_pass (length c.args.rows.now) c.loop.counter c.loop-test.true c.loop.invariant.passing
      c.in_ok-settings.ensures.forms.0 c.in_ok-settings.ensures.forms.1;
}
