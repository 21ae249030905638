-- What is left of the parts decides, and n certificates are used.
use Rattle.std.proofs.Common.{◌≤◌, length}
use Rattle.rx_pairs.specs.Lent.{lent}
use Rattle.rx_pairs.proofs.DescendingLaws.{PartsRemain}
use Rattle.rx_pairs.proofs.descending.parts_lower.Given as goal

abbrev pub invariant-loop-part : goal.invariant-loop-part
invariant-loop-part l = record {
  decides : PartsRemain l.witness l.rows (lent l.root) l.parts l.part-index l.number l.next;
  there : l.next ≤ length l.witness.certs.now;
}
