-- The groups that are left decide, with the certificates that are left.
use Rattle.std.proofs.Common.{◌≡◌, length, drop}
use Rattle.rx_inference.specs.Judging.{asked_by_all, groups_in_order}
use Rattle.rx_steps.proofs.judging.show_in_order.Given as goal

abbrev pub invariant-loop-group : goal.invariant-loop-group
invariant-loop-group l = record {
  decides : groups_in_order l.old l.new l.first (drop l.group-index l.groups) l.left ≡
      groups_in_order l.old l.new 0 l.groups l.certs;
  count : length l.left ≡ asked_by_all l.old l.new (drop l.group-index l.groups);
}
