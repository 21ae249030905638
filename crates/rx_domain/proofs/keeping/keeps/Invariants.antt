-- The parts and lists that are left decide, and no list was of a part that isn't there.
use Rattle.std.proofs.Common.{◌≡◌, ◌≤◌, drop, length}
use Rattle.rx_domain.specs.Keeping.{keeping, keeping_from, parts_kept}
use Rattle.rx_domain.proofs.keeping.keeps.Given as goal

abbrev pub invariant-loop-part : goal.invariant-loop-part
invariant-loop-part l = record {
  decides : keeping_from l.part (drop l.part (parts_kept l.rules l.goal)) (drop l.part l.lists) ≡
      keeping l.rules l.goal l.lists;
  there : l.part ≤ length (parts_kept l.rules l.goal);
}
