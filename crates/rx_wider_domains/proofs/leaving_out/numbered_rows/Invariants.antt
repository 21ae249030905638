-- Those so far, and those of the lists that are left.
use Rattle.std.proofs.Common.{◌≡◌, ◌++◌, drop}
use Rattle.rx_wider_domains.specs.Finding.{numbered_from}
use Rattle.rx_wider_domains.proofs.leaving_out.numbered_rows.Given as goal

abbrev pub invariant-loop-number : goal.invariant-loop-number
invariant-loop-number l =
    l.all.items ++ numbered_from l.number (drop l.number l.lists) ≡ numbered_from 0 l.lists
