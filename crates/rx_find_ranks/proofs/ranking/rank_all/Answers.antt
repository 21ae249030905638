-- All pairs are open at first, and the columns at last lower them all.
use Rattle.std.proofs.Common.{◌∙◌, ap, length, subst, sym, Option, []}
use Rattle.std.proofs.lemmas.Bool.{not-false, not-true}
use Rattle.std.specs.Option.{IfSome, option_map}
use Rattle.rx_solve.specs.Attempts.{Tried}
use Rattle.rx_find_ranks.proofs.RankLaws.{columns_here, first_over, first_ranking, lowers_here, not_whole}
use Rattle.rx_find_ranks.specs.Rounds.{IsBegun, IsLonger, IsRanked}
use Rattle.rx_find_ranks.specs.Tables.{IsSplit}
use Rattle.rx_find_ranks.specs.Columns.{columns_in}
use Rattle.rx_find_ranks.specs.declared.progress.Progress.{Progress}
use Rattle.rx_term.specs.declared.rule_set.RuleParts.{RuleParts}
use Rattle.rx_find_ranks.proofs.ranking.rank_all.Goals as goal

pub returns-then-not-listed-clause-tried : goal.returns-then-not-listed-clause-tried
returns-then-not-listed-clause-tried g c =
    not_whole c.args.problem.now.kind c.args.problem.now.rules.now c.args.problem.now.hypotheses.now c.in_ok-listed.listed
    c.in_ok-listed.ensures
    (not-true c.in_ok-listed.listed.whole c.if-not-listed.true)

pub rank_from-requires-clause-over : goal.rank_from-requires-clause-over
rank_from-requires-clause-over g c =
    let begun = subst (λ ps. IsBegun ps c.in_ok-start.start) c.into_vec-pairs.ensures
    c.in_ok-start.ensures in
    first_over c.args.problem.now.kind c.args.problem.now.rules.now c.args.problem.now.hypotheses.now
    c.parts.ensures.made c.requires.roots c.requires.fits
    c.in_ok-listed.listed c.in_ok-listed.ensures (not-false c.in_ok-listed.listed.whole
    c.if-not-listed.false) c.in_ok-start.start begun

pub returns-in_ok-found-in-Some-clause-tried : goal.returns-in_ok-found-in-Some-clause-tried
returns-in_ok-found-in-Some-clause-tried g c =
    let begun = subst (λ ps. IsBegun ps c.in_ok-start.start) c.into_vec-pairs.ensures
    c.in_ok-start.ensures in
    let shown : Option Progress → Tried (Unit {0}) = λ o.
    record { made = option_map (λ (p : Progress). tt {0}) o; noted = c.in_ok-tried.tried.noted }
    in
    sym (ap shown c.in-Some.is) ∙ c.in_ok-tried.ensures.tried
    ∙ first_ranking c.args.problem.now.kind c.args.problem.now.rules.now c.args.problem.now.hypotheses.now
    c.parts.ensures.made c.requires.roots c.requires.fits
    c.in_ok-listed.listed c.in_ok-listed.ensures (not-false c.in_ok-listed.listed.whole
    c.if-not-listed.false) c.in_ok-start.start begun

pub returns-in_ok-found-in-Some-clause-lowers : goal.returns-in_ok-found-in-Some-clause-lowers
returns-in_ok-found-in-Some-clause-lowers g c =
    let begun = subst (λ ps. IsBegun ps c.in_ok-start.start) c.into_vec-pairs.ensures
    c.in_ok-start.ensures in
    let ranked = subst (λ o. IfSome o (IsRanked c.args.problem.now.rules.now.symbols
    c.in_ok-start.start)) c.in-Some.is c.in_ok-tried.ensures.made in
    lowers_here c.args.problem.now.kind c.args.problem.now.rules.now c.args.problem.now.hypotheses.now
    c.parts.ensures.made c.requires.roots c.requires.fits
    c.in_ok-listed.listed c.in_ok-listed.ensures (not-false c.in_ok-listed.listed.whole
    c.if-not-listed.false) c.in_ok-start.start begun
    c.in-Some.done ranked c.len-symbols.result
    (c.len-symbols.ensures ∙ ap (λ (parts : RuleParts). length parts.symbols) c.parts.ensures.parts)
    c.as_slice.result.now
    (c.as_slice.ensures.value ∙ ap (λ (p : Progress). p.columns.items) c.in-Some.done-is)
    c.in_ok-found-in-Some.found
    c.in_ok-found-in-Some.ensures.lawful
    (λ ps split over. c.in_ok-found-in-Some.ensures.lower ps
    (subst (λ (p : Progress). IsSplit ps (columns_in c.as_slice.result.now) [] p.closed.items)
    (sym c.in-Some.done-is) split) over)
    (λ ps split. c.in_ok-found-in-Some.ensures.deep ps
    (subst (λ (p : Progress). IsSplit ps (columns_in c.as_slice.result.now) [] p.closed.items)
    (sym c.in-Some.done-is) split))

pub returns-in-None-clause-tried : goal.returns-in-None-clause-tried
returns-in-None-clause-tried g c =
    let begun = subst (λ ps. IsBegun ps c.in_ok-start.start) c.into_vec-pairs.ensures
    c.in_ok-start.ensures in
    let shown : Option Progress → Tried (Unit {0}) = λ o.
    record { made = option_map (λ (p : Progress). tt {0}) o; noted = c.in_ok-tried.tried.noted }
    in
    sym (ap shown c.in-None.is) ∙ c.in_ok-tried.ensures.tried
    ∙ first_ranking c.args.problem.now.kind c.args.problem.now.rules.now c.args.problem.now.hypotheses.now
    c.parts.ensures.made c.requires.roots c.requires.fits
    c.in_ok-listed.listed c.in_ok-listed.ensures (not-false c.in_ok-listed.listed.whole
    c.if-not-listed.false) c.in_ok-start.start begun

pub returns-in_ok-found-in-Some-clause-columns : goal.returns-in_ok-found-in-Some-clause-columns
returns-in_ok-found-in-Some-clause-columns g c =
    let ranked = subst (λ o. IfSome o (IsRanked c.args.problem.now.rules.now.symbols
    c.in_ok-start.start)) c.in-Some.is c.in_ok-tried.ensures.made in
    let longer = subst (λ o. IfSome o (IsLonger 7 c.in_ok-start.start)) c.in-Some.is
    c.in_ok-tried.ensures.more in
    columns_here c.args.problem.now.rules.now.symbols c.in_ok-start.start c.in-Some.done ranked longer
    c.in_ok-found-in-Some.found.table
    (c.in_ok-found-in-Some.ensures.columns ∙ ap length (c.as_slice.ensures.value
    ∙ ap (λ (p : Progress). p.columns.items) c.in-Some.done-is))
