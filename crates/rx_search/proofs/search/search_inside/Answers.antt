-- The log that was found gets the domains.
use Rattle.std.proofs.Common.{◌∙◌, ap, map, subst, sym}
use Rattle.rx_find_ranks.specs.Found.{HasColumns}
use Rattle.rx_log.specs.declared.log.Log.{Log}
use Rattle.rx_moves.specs.Moves.{move_of}
use Rattle.rx_search.specs.Ends.{IsEnd}
use Rattle.rx_search.specs.Search.{Closed, visited}
use Rattle.rx_search.proofs.search.search_inside.Goals as goal

pub returns-in-Ok-clause-steps : goal.returns-in-Ok-clause-steps
returns-in-Ok-clause-steps g c =
    c.in-Ok.ensures.steps
    ∙ ap (λ (log : Log). Closed (map move_of log.steps)) (sym c.log_inside.ensures.same)

pub returns-in-Ok-clause-accepted : goal.returns-in-Ok-clause-accepted
returns-in-Ok-clause-accepted g c = λ parts is.
    c.log_inside.ensures.accepted parts c.args.task.now.goal.now is c.in-Ok.ensures.accepted

pub returns-in-Ok-clause-shallow : goal.returns-in-Ok-clause-shallow
returns-in-Ok-clause-shallow g c = λ keeps.
    c.log_inside.ensures.shallow c.in-Ok.ensures.shallow keeps

pub returns-in-Ok-clause-domains : goal.returns-in-Ok-clause-domains
returns-in-Ok-clause-domains g c = ap (λ (log : Log). log.domains) c.log_inside.ensures.same

pub returns-in-Ok-clause-columns : goal.returns-in-Ok-clause-columns
returns-in-Ok-clause-columns g c =
    subst (λ (log : Log). HasColumns log.table) (sym c.log_inside.ensures.same)
    c.in-Ok.ensures.columns

pub returns-in-Err-clause-ends : goal.returns-in-Err-clause-ends
returns-in-Err-clause-ends g c =
    let task = c.args.task.now in
    subst (IsEnd task.depth task.budget
    (visited c.args.inside.kind c.args.inside.rules task.goal.now task.depth task.budget))
    (sym c.dropped.ensures) c.in-Err.ensures.ends
