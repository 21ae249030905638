-- The left side, and then the right one.
use Rattle.std.proofs.Common.{◌≡◌, subst, List}
use Rattle.std.specs.Prelude.{OnOk}
use Rattle.rx_row.specs.declared.row.Row.{Row}
use Rattle.rx_find_domains.proofs.VisitingLaws.{goal_visited}
use Rattle.rx_find_domains.proofs.passes.visit_goal.Goals as goal

pub returns-clause-lists : goal.returns-clause-lists
returns-clause-lists g c =
    subst (λ (ls : List (List Row)). OnOk c.visit_term-2.result
    (c.visit_term-2.new.lists.items ≡ ls))
    (goal_visited c.args.goal.now c.in_ok-given.given c.args.lists.now.items
    c.visit_term.new.lists.items c.in_ok-given.ensures c.in_ok-visit_term.ensures.lists)
    c.visit_term-2.ensures.lists
