-- All is in range where the parts are.
use Rattle.std.proofs.Common.{◌∙◌, sym}
use Rattle.rx_logwriting.proofs.RangeLaws.{ranges_are}
use Rattle.rx_logwriting.proofs.ranges.is_in_range.Goals as goal

pub returns : goal.returns
returns c = c.parts_have_text.ensures ∙ sym (ranges_are c.args.log.now)
