-- What comes of the search over the set that it begins with.
use Rattle.std.proofs.Common.{◌≡◌, ◌∙◌, None, ap, map, subst, sym}
use Rattle.std.proofs.lemmas.Result.{IfOk-weaker}
use Rattle.std.specs.Prelude.{IfErr, IfOk}
use Rattle.rx_log.specs.declared.log.Log.{Log}
use Rattle.rx_moves.specs.Moves.{move_of}
use Rattle.rx_rank.specs.declared.kind.RankingKind.TheVariants.{Plain}
use Rattle.rx_search.specs.Beginning.{Over, Unranked}
use Rattle.rx_search.specs.Begun.{BeginsOver, IsBegun, rows_of}
use Rattle.rx_search.specs.Ends.{IsEnd}
use Rattle.rx_search.specs.Search.{Closed}
use Rattle.rx_search.proofs.BegunLaws.{fits_inside, searched_at, searched_inside}
use Rattle.rx_search.proofs.Closing.{bare_accepted}
use Rattle.rx_search.proofs.search.search_with.Goals as goal

-- ---- over the rules as they are

pub search_over-requires-clause-ready : goal.search_over-requires-clause-ready
search_over-requires-clause-ready g c =
    let task = c.args.task.now in
    let is = subst (IsBegun c.args.rules.now task.goal.now) c.in-Bare.is
    c.in_ok-begun.ensures.begun in
    record { coverable = c.requires.coverable; ranked = is.1 }

pub returns-in-Bare-clause-steps : goal.returns-in-Bare-clause-steps
returns-in-Bare-clause-steps g c =
    let task = c.args.task.now in
    let is = subst (IsBegun c.args.rules.now task.goal.now) c.in-Bare.is
    c.in_ok-begun.ensures.begun in
    subst (λ s. IfOk c.search_over.result (λ (log : Log). s ≡ Closed (map move_of log.steps)))
    (sym (searched_at c.args.rules.now task.goal.now
    (Over Plain None) task.depth task.budget is.0))
    c.search_over.ensures.steps

pub returns-in-Bare-clause-accepted : goal.returns-in-Bare-clause-accepted
returns-in-Bare-clause-accepted g c =
    let task = c.args.task.now in
    bare_accepted c.args.rules.now task.goal.now c.search_over.result
    c.search_over.ensures.accepted c.search_over.ensures.bare

pub returns-in-Bare-clause-domains : goal.returns-in-Bare-clause-domains
returns-in-Bare-clause-domains g c =
    let task = c.args.task.now in
    let is = subst (IsBegun c.args.rules.now task.goal.now) c.in-Bare.is
    c.in_ok-begun.ensures.begun in
    IfOk-weaker c.search_over.result _
    (λ (log : Log). BeginsOver c.args.rules.now task.goal.now (rows_of log.domains))
    (λ log none. (Plain, is.0 ∙ ap (λ d. Over Plain (rows_of d)) (sym none)))
    c.search_over.ensures.bare

pub returns-in-Bare-clause-ends : goal.returns-in-Bare-clause-ends
returns-in-Bare-clause-ends g c =
    let task = c.args.task.now in
    let is = subst (IsBegun c.args.rules.now task.goal.now) c.in-Bare.is
    c.in_ok-begun.ensures.begun in
    subst (λ s. IfErr c.search_over.result (IsEnd task.depth task.budget s))
    (sym (searched_at c.args.rules.now task.goal.now
    (Over Plain None) task.depth task.budget is.0))
    c.search_over.ensures.ends

-- ---- inside domains

pub search_inside-requires-clause-ready : goal.search_inside-requires-clause-ready
search_inside-requires-clause-ready g c =
    let task = c.args.task.now in
    let is = subst (IsBegun c.args.rules.now task.goal.now) c.in-Inside.is
    c.in_ok-begun.ensures.begun in is.2

pub search_inside-requires-clause-listed : goal.search_inside-requires-clause-listed
search_inside-requires-clause-listed g c =
    let task = c.args.task.now in
    let is = subst (IsBegun c.args.rules.now task.goal.now) c.in-Inside.is
    c.in_ok-begun.ensures.begun in is.1.listed

pub search_inside-requires-clause-fits : goal.search_inside-requires-clause-fits
search_inside-requires-clause-fits g c =
    let task = c.args.task.now in
    let is = subst (IsBegun c.args.rules.now task.goal.now) c.in-Inside.is
    c.in_ok-begun.ensures.begun in
    fits_inside c.args.rules.now task.goal.now c.in-Inside.inside is.1 c.requires.fits

pub returns-in-Inside-clause-steps : goal.returns-in-Inside-clause-steps
returns-in-Inside-clause-steps g c =
    let task = c.args.task.now in
    let is = subst (IsBegun c.args.rules.now task.goal.now) c.in-Inside.is
    c.in_ok-begun.ensures.begun in
    subst (λ s. IfOk c.search_inside.result (λ (log : Log). s ≡ Closed (map move_of log.steps)))
    (sym (searched_inside c.args.rules.now task.goal.now c.in-Inside.inside task.depth
    task.budget is.1 is.0)) c.search_inside.ensures.steps

pub returns-in-Inside-clause-accepted : goal.returns-in-Inside-clause-accepted
returns-in-Inside-clause-accepted g c =
    let task = c.args.task.now in
    let is = subst (IsBegun c.args.rules.now task.goal.now) c.in-Inside.is
    c.in_ok-begun.ensures.begun in
    c.search_inside.ensures.accepted c.args.rules.now is.1

pub returns-in-Inside-clause-domains : goal.returns-in-Inside-clause-domains
returns-in-Inside-clause-domains g c =
    let task = c.args.task.now in
    let is = subst (IsBegun c.args.rules.now task.goal.now) c.in-Inside.is
    c.in_ok-begun.ensures.begun in
    IfOk-weaker c.search_inside.result _
    (λ (log : Log). BeginsOver c.args.rules.now task.goal.now (rows_of log.domains))
    (λ log same. (
      c.in-Inside.inside.kind,
      is.0 ∙ ap (λ d. Over c.in-Inside.inside.kind (rows_of d)) (sym same),
    ))
    c.search_inside.ensures.domains

pub returns-in-Inside-clause-shallow : goal.returns-in-Inside-clause-shallow
returns-in-Inside-clause-shallow g c =
    let task = c.args.task.now in
    let is = subst (IsBegun c.args.rules.now task.goal.now) c.in-Inside.is
    c.in_ok-begun.ensures.begun in
    c.search_inside.ensures.shallow is.1.found.shallow

pub returns-in-Inside-clause-ends : goal.returns-in-Inside-clause-ends
returns-in-Inside-clause-ends g c =
    let task = c.args.task.now in
    let is = subst (IsBegun c.args.rules.now task.goal.now) c.in-Inside.is
    c.in_ok-begun.ensures.begun in
    subst (λ s. IfErr c.search_inside.result (IsEnd task.depth task.budget s))
    (sym (searched_inside c.args.rules.now task.goal.now c.in-Inside.inside task.depth
    task.budget is.1 is.0)) c.search_inside.ensures.ends

-- ---- nowhere

pub returns-clause-ends : goal.returns-clause-ends
returns-clause-ends g c =
    let task = c.args.task.now in
    let is = subst (IsBegun c.args.rules.now task.goal.now) c.in-Unranked.is
    c.in_ok-begun.ensures.begun in
    subst (λ s. IsEnd task.depth task.budget s c.unranked_end.result)
    (sym (searched_at c.args.rules.now task.goal.now (Unranked c.in-Unranked.noted) task.depth
    task.budget is)) (c.unranked_end.ensures task.depth task.budget)
