-- At no loop point rules are tried, and then the expansion.
use Rattle.std.proofs.Common.{◌∙◌, sym, false}
use Rattle.rx_moves.specs.Moves.{Expand}
use Rattle.rx_moves.specs.Trying.{attempt}
use Rattle.rx_moves.proofs.FoundLaws.{two_first, two_second}
use Rattle.rx_moves.proofs.PointLaws.{unfolds, unfolds_not}
use Rattle.rx_moves.proofs.sides.find_unfolding_side.Goals as goal

pub returns-then-is_at_loop_point-clause-found : goal.returns-then-is_at_loop_point-clause-found
returns-then-is_at_loop_point-clause-found g c = λ state first.
    unfolds_not c.args.rules.now c.args.goal.now c.args.side c.redex_symbol.result
    c.redex_symbol.ensures state c.failed.result
    (sym (c.is_at_loop_point.ensures c.args.rules.now c.requires.points) ∙
    c.if-is_at_loop_point.true) c.failed.ensures

pub returns-in-Err-clause-found : goal.returns-in-Err-clause-found
returns-in-Err-clause-found g c = λ state first.
    unfolds c.args.rules.now c.args.goal.now c.args.side c.redex_symbol.result
    c.redex_symbol.ensures state c.in-Err.found
    (sym (c.is_at_loop_point.ensures c.args.rules.now c.requires.points) ∙
    c.if-is_at_loop_point.false)
    (two_first c.args.rules.now state _ c.in_ok-find_rules.field-0
    (c.in_ok-find_rules.ensures.found state first)
    (attempt c.args.rules.now state (Expand c.args.side false)) c.in-Err.found c.in-Err.ensures)

pub returns-clause-found : goal.returns-clause-found
returns-clause-found g c = λ state first.
    unfolds c.args.rules.now c.args.goal.now c.args.side c.redex_symbol.result
    c.redex_symbol.ensures state c.after.result
    (sym (c.is_at_loop_point.ensures c.args.rules.now c.requires.points) ∙
    c.if-is_at_loop_point.false)
    (two_second c.args.rules.now state _ c.in_ok-find_rules.field-0
    (c.in_ok-find_rules.ensures.found state first)
    (attempt c.args.rules.now state (Expand c.args.side false)) c.in_ok-expanded.expanded
    c.after.result c.in-Ok.noted c.in-Ok.ensures (c.in_ok-expanded.ensures state first)
    c.after.ensures)
