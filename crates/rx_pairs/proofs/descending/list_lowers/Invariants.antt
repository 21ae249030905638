-- The pairs of what is left of the rules decide, and n certificates are used.
use Rattle.std.proofs.Common.{◌≤◌, length}
use Rattle.rx_pairs.proofs.DescendingLaws.{Remain}
use Rattle.rx_pairs.proofs.descending.list_lowers.Given as goal

abbrev pub invariant-loop-rule : goal.invariant-loop-rule
invariant-loop-rule l = record {
  decides : Remain l.rules l.witness l.list l.rule-index l.number l.next;
  there : l.next ≤ length l.witness.certs.now;
}
