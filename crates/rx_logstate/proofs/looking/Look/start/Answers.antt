-- Nothing has come yet.
use Rattle.rx_log.specs.Reading.{blank}
use Rattle.rx_logstate.proofs.LookLemmas.{good_at_first}
use Rattle.rx_logstate.proofs.looking.Look.start.Goals as goal

pub returns : goal.returns
returns c = λ parts. record {
  log = blank;
  reader = c.new.ensures;
  good = good_at_first c.new.ensures;
  follows = c.in_ok-follower.ensures.follows parts;
}
