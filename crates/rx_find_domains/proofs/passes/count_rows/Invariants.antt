-- The rows of the lists so far.
use Rattle.std.proofs.Common.{◌≡◌, ◌≤◌, ◌*◌, ◌^◌, take}
use Rattle.rx_find_domains.specs.Finding.{count_rows}
use Rattle.rx_find_domains.proofs.passes.count_rows.Given as goal

abbrev pub invariant-loop-rows : goal.invariant-loop-rows
invariant-loop-rows l = record {
  count : l.count ≡ count_rows (take l.rows-index l.lists);
  most : l.count ≤ l.rows-index * 2 ^ 64;
}
