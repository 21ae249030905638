-- The wider search follows where the end is open.
use Rattle.std.proofs.Common.{◌∙◌, subst, sym}
use Rattle.rx_cli.specs.Steps.{IsFoundOver}
use Rattle.rx_cli.proofs.Searching.{followed, not_open}
use Rattle.rx_cli.proofs.proving.search_on.Goals as goal

pub returns-then-not-is_open-clause-found : goal.returns-then-not-is_open-clause-found
returns-then-not-is_open-clause-found g c =
    let s = c.args.space.now in
    not_open s.kind s.rules.now c.args.goal.now c.args.effort c.args.end c.requires.ended
    (sym c.is_open.ensures ∙ c.if-not-is_open.true)

pub returns-clause-found : goal.returns-clause-found
returns-clause-found g c =
    let s = c.args.space.now in
    subst (IsFoundOver s.kind s.rules.now c.args.goal.now c.args.effort) (sym c.log_or.ensures)
    (followed s.kind s.rules.now c.args.goal.now c.args.effort c.args.end c.wider_log-made.result
    c.requires.ended (sym c.is_open.ensures ∙ c.if-not-is_open.false)
    c.wider_log-made.ensures.found c.wider_log-made.ensures.accepted
    c.wider_log-made.ensures.bare c.wider_log-made.ensures.shallow)
