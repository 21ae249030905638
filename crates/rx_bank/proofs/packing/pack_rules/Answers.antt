-- One more packed rule represents one more rule.
use Rattle.rx_bank.specs.Packing.{equation_within, rule_at}
use Rattle.rx_bank.proofs.Lasting.{rule_lasts}
use Rattle.rx_bank.proofs.Growing.{packed_more}
use Rattle.rx_bank.proofs.packing.pack_rules.Goals as goal

pub loop-rule-preserved : goal.loop-rule-preserved
loop-rule-preserved c =
    let s = c.loop-rule in
    let b = c.pack_rule.new.bank in
    record {
      stands =
          packed_more equation_within rule_at rule_lasts s.bank b c.pack_rule.ensures.stay s.packed
          c.args.rules.now s.rule-index c.rule-item.result c.loop-rule-test.true c.rule-item.is
          c.push.new.self c.in_ok-pack_rule.field-0 c.in_ok-push.ensures.ok s.invariant.stands
          c.in_ok-pack_rule.ensures.rule;
      stay = λ i p e. c.pack_rule.ensures.stay i p (s.invariant.stay i p e);
    }
