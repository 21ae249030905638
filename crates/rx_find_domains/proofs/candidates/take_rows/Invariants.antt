-- What is left of the rows decides.
use Rattle.std.proofs.Common.{◌≡◌, drop}
use Rattle.rx_find_domains.specs.Candidates.{taken}
use Rattle.rx_find_domains.proofs.candidates.take_rows.Given as goal

abbrev pub invariant-loop-row : goal.invariant-loop-row
invariant-loop-row l =
    taken l.arity l.rows (drop l.row-index l.more) ≡ taken l.arity l.fn.rows l.more
