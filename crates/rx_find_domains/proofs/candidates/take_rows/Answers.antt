-- One row more.
use Rattle.std.proofs.Common.{List, ◌∙◌, ◌+◌, ap, drop}
use Rattle.rx_row.specs.declared.row.Row.{Row}
use Rattle.rx_find_domains.specs.Candidates.{taken}
use Rattle.rx_find_domains.proofs.CandidateLaws.{rows_next}
use Rattle.rx_find_domains.proofs.candidates.take_rows.Goals as goal

pub loop-row-preserved : goal.loop-row-preserved
loop-row-preserved c =
    ap (λ (rs : List Row). taken c.args.arity rs (drop (c.loop-row.row-index + 1) c.args.more.now))
    c.in_ok-take_row.ensures ∙
    rows_next c.args.arity c.loop-row.rows c.args.more.now c.loop-row.row-index c.row-item.result
    c.loop-row-test.true c.row-item.is ∙ c.loop-row.invariant
