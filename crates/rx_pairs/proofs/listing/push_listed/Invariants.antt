-- The pairs so far, and then those of the rules that are left, are what is to be listed.
use Rattle.std.proofs.Common.{◌≡◌, ◌++◌, drop}
use Rattle.rx_pairs.specs.Inside.{listing}
use Rattle.rx_pairs.proofs.listing.push_listed.Given as goal

abbrev pub invariant-loop-rule : goal.invariant-loop-rule
invariant-loop-rule l = record {
  pairs : l.fn.pairs ++ (listing l.rules l.list).pairs ≡
      l.pairs ++ (listing l.rules (drop l.rule-index l.list)).pairs;
  whole : (listing l.rules l.list).whole ≡
      (listing l.rules (drop l.rule-index l.list)).whole;
}
