-- Those so far, and those of the rows that are left.
use Rattle.std.proofs.Common.{◌≡◌, ◌++◌, drop}
use Rattle.rx_wider_domains.specs.Finding.{numbered}
use Rattle.rx_wider_domains.proofs.leaving_out.push_numbered.Given as goal

abbrev pub invariant-loop-row : goal.invariant-loop-row
invariant-loop-row l =
    l.all.items ++ numbered l.number (drop l.row-index l.rows)
    ≡ l.fn.all.items ++ numbered l.number l.rows
