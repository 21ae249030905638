-- The pairs so far, and then those of the rules that are left, are what is to be listed.
use Rattle.std.proofs.Common.{◌≡◌, ◌++◌, drop}
use Rattle.rx_pairs.specs.Inside.{listing}
use Rattle.rx_has_ranks.proofs.hypotheses.push_listed.Given as goal

abbrev pub invariant-loop-rule : goal.invariant-loop-rule
invariant-loop-rule l = record {
  pairs : l.fn.pairs ++ (listing l.rules l.hypotheses).pairs ≡
      l.pairs ++ (listing l.rules (drop l.rule-index l.hypotheses)).pairs;
  whole : (listing l.rules l.hypotheses).whole ≡
      (listing l.rules (drop l.rule-index l.hypotheses)).whole;
}
