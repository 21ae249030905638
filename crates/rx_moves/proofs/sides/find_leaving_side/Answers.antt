-- At a loop point the rules are tried that leave its component.
use Rattle.std.proofs.Common.{◌∙◌, sym}
use Rattle.rx_moves.proofs.PointLaws.{leaves_answer, leaves_not}
use Rattle.rx_moves.proofs.sides.find_leaving_side.Goals as goal

pub returns-then-not-is_at_loop_point-clause-found :
    goal.returns-then-not-is_at_loop_point-clause-found
returns-then-not-is_at_loop_point-clause-found g c = λ state first.
    leaves_not c.args.rules.now c.args.goal.now c.args.side c.redex_symbol-redex.result
    c.redex_symbol-redex.ensures state c.failed.result
    (sym (c.is_at_loop_point.ensures c.args.rules.now c.requires.points) ∙
    c.if-not-is_at_loop_point.true) c.failed.ensures

pub returns-clause-found : goal.returns-clause-found
returns-clause-found g c =
    leaves_answer c.args.rules.now c.args.goal.now c.args.side c.redex_symbol-redex.result
    c.redex_symbol-redex.ensures c.find_rules.result
    (sym (c.is_at_loop_point.ensures c.args.rules.now c.requires.points) ∙
    c.if-not-is_at_loop_point.false) c.find_rules.ensures.found
