-- By the rows that are given.
use Rattle.std.proofs.Common.{◌≡◌, List, subst}
use Rattle.std.specs.Result.{IfOk}
use Rattle.rx_row.specs.declared.row.Row.{Row}
use Rattle.rx_find_domains.specs.Finding.{is_kept}
use Rattle.rx_find_domains.proofs.staying.stays.Goals as goal

pub returns-clause-kept : goal.returns-clause-kept
returns-clause-kept g c =
    subst (λ (rows : List Row). IfOk c.is_kept.result (λ b. b ≡
    is_kept rows c.args.args.now c.args.row.now)) c.in_ok-rows.ensures c.is_kept.ensures.kept
