-- The domains, the covers, the steps, and the line that begins the ranks.
use Rattle.std.proofs.Common.{subst}
use Rattle.rx_log.specs.declared.line.Line.TheVariants as line
use Rattle.rx_log.specs.declared.line_state.LineState.TheVariants.{InRanks}
use Rattle.rx_log.specs.declared.log.Log.{Log}
use Rattle.rx_check.specs.Replay.{place_after}
use Rattle.rx_check.specs.Whole.{Replays, domains_alone, with_covers}
use Rattle.rx_check.proofs.Fronts.{front_made}
use Rattle.rx_check.proofs.WholeLines.{one_line, ranks_lead}
use Rattle.rx_check.proofs.replayer.Replayer.take_front.Goals as goal

pub line-requires-clause-comes : goal.line-requires-clause-comes
line-requires-clause-comes c = (
  0,
  ranks_lead (place_after c.take_steps.new.self) c.args.log.now.table.columns
      c.in_ok-take_steps.ensures.at,
)

pub returns-clause-takes : goal.returns-clause-takes
returns-clause-takes c = λ target before.
    let log = c.args.log.now in
    let first = c.in_ok-take_begin.ensures.takes target before in
    let covered = c.in_ok-take_covers.ensures.takes target (domains_alone log.domains) first in
    let stepped = c.in_ok-take_steps.ensures.takes target
    (with_covers (domains_alone log.domains) c.as_slice.result.now) covered in
    subst (λ (l : Log). Replays c.line.new.self c.args.rules.now target l)
    (front_made log c.as_slice.result.now c.as_slice-2.result.now c.as_slice.ensures
    c.as_slice-2.ensures)
    (one_line (line.Ranks log.table.columns) 0 (InRanks log.table.columns 0) stepped
    (ranks_lead (place_after c.take_steps.new.self) log.table.columns
    c.in_ok-take_steps.ensures.at)
    (c.in_ok-line.ensures.stands target))
