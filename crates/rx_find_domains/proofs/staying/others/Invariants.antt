-- The rows so far, and the others among those that are left.
use Rattle.std.proofs.Common.{◌≡◌, ◌++◌, drop}
use Rattle.rx_find_domains.specs.Finding.{others}
use Rattle.rx_find_domains.proofs.staying.others.Given as goal

abbrev pub invariant-loop-other : goal.invariant-loop-other
invariant-loop-other l =
    l.left ++ others l.row (drop l.other-index l.rows) ≡ others l.row l.rows
