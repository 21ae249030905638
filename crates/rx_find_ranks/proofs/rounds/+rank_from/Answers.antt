-- A round is a column of heights and one of polynomials, and then come the rounds that are left.
use Rattle.std.proofs.Common.{◌≡◌, ◌∙◌, ◌-◌, ap, arith, subst, sym, suc}
use Rattle.std.proofs.lemmas.Bool.{false≢true}
use Rattle.std.specs.Option.{IfSome, option_map}
use Rattle.rx_rank.specs.Components.{inside}
use Rattle.rx_rank.specs.Ranking.{ranking_from}
use Rattle.rx_find_ranks.proofs.RoundLaws.{longer_rounds, no_round, ranked_grown, ranked_rounds, round_done, round_fails, rounds_end}
use Rattle.rx_find_ranks.specs.Rounds.{IsGrown, IsLonger, IsRanked}
use Rattle.rx_find_ranks.specs.Tables.{pairs_open}
use Rattle.rx_find_ranks.specs.declared.progress.Progress.{Progress}
use Rattle.rx_find_ranks.proofs.rounds.+rank_from.Goals as goal

pub returns-then-is_done-clause-tried : goal.returns-then-is_done-clause-tried
returns-then-is_done-clause-tried g t c =
    let pairs = pairs_open c.args.progress.entries.items in
    (λ i. record {
      made = option_map (λ (p : Progress). tt {0}) (c.found.ensures.made i);
      noted = c.found.ensures.noted i;
    })
    ∙ rounds_end c.args.problem.now.kind c.args.problem.now.rules.now c.args.problem.now.hypotheses.now c.args.left pairs
    c.in_ok-grown.grown.entries.items (c.is_done.ensures.0 c.if-is_done.true)
    (c.in_ok-grown.ensures.pairs ∙ ap (λ m. inside m pairs) c.symbols.ensures)

pub returns-then-is_done-clause-made : goal.returns-then-is_done-clause-made
returns-then-is_done-clause-made g t c =
    let infos = c.args.problem.now.rules.now.symbols in
    let width = c.requires.width in
    subst (λ o. IfSome o (IsRanked infos c.args.progress)) (sym c.found.ensures.made)
    (ranked_grown infos c.args.progress c.in_ok-grown.grown (omega (arith, width))
    (c.in_ok-grown.ensures.grown infos c.symbols.ensures)
    (c.is_done.ensures.0 c.if-is_done.true))

pub returns-then-left-eq0-clause-tried : goal.returns-then-left-eq0-clause-tried
returns-then-left-eq0-clause-tried g t c =
    let pairs = pairs_open c.args.progress.entries.items in
    no_round c.args.problem.now.kind c.args.problem.now.rules.now c.args.problem.now.hypotheses.now pairs
    c.in_ok-grown.grown.entries.items
    (λ none. false≢true (sym c.if-is_done.false ∙ c.is_done.ensures.1 none))
    (c.in_ok-grown.ensures.pairs ∙ ap (λ m. inside m pairs) c.symbols.ensures)
    ∙ ap (λ k. ranking_from c.args.problem.now.kind c.args.problem.now.rules.now c.args.problem.now.hypotheses.now k pairs)
    (sym c.if-left-eq0.true)

pub returns-clause-tried : goal.returns-clause-tried
returns-clause-tried g t c =
    let pairs = pairs_open c.args.progress.entries.items in
    let k = c.args.left - 1 in
    let some = c.if-left-eq0.false in
    let one_less : c.args.left ≡ suc k = omega (arith, some) in
    (λ i. record {
      made = option_map (λ (p : Progress). tt {0}) (c.noted_before.ensures.made i);
      noted = c.noted_before.ensures.noted i;
    })
    ∙ round_done c.args.problem.now.kind c.args.problem.now.rules.now c.args.problem.now.hypotheses.now k c.args.left pairs
    c.in_ok-grown.grown.entries.items one_less
    (λ none. false≢true (sym c.if-is_done.false ∙ c.is_done.ensures.1 none))
    (c.in_ok-grown.ensures.pairs ∙ ap (λ m. inside m pairs) c.symbols.ensures) c.in_ok-tried.tried.made
    c.in_ok-tried.tried.noted c.in_ok-tried.ensures.tried
    c.in-Some.next c.in-Some.is (record {
      made =
          option_map (λ (p : Progress). tt {0}) c.in_ok-rest.rest.made;
      noted =
          c.in_ok-rest.rest.noted;
    })
    (c.in_ok-rest.ensures.tried ∙ ap (λ (p : Progress).
    ranking_from c.args.problem.now.kind c.args.problem.now.rules.now c.args.problem.now.hypotheses.now k (pairs_open p.entries.items))
    c.in-Some.next-is)

pub returns-clause-made : goal.returns-clause-made
returns-clause-made g t c =
    let infos = c.args.problem.now.rules.now.symbols in
    subst (λ o. IfSome o (IsRanked infos c.args.progress)) (sym c.noted_before.ensures.made)
    (ranked_rounds infos c.args.progress c.in_ok-grown.grown c.in-Some.next
    c.in_ok-rest.rest.made (c.in_ok-grown.ensures.grown infos c.symbols.ensures)
    (subst (λ o. IfSome o (IsGrown infos c.in_ok-grown.grown)) c.in-Some.is
    c.in_ok-tried.ensures.grown)
    (subst (λ (p : Progress). IfSome c.in_ok-rest.rest.made (IsRanked infos p))
    c.in-Some.next-is c.in_ok-rest.ensures.made))

pub returns-in_default-clause-tried : goal.returns-in_default-clause-tried
returns-in_default-clause-tried g t c =
    let pairs = pairs_open c.args.progress.entries.items in
    let k = c.args.left - 1 in
    let some = c.if-left-eq0.false in
    let one_less : c.args.left ≡ suc k = omega (arith, some) in
    round_fails c.args.problem.now.kind c.args.problem.now.rules.now c.args.problem.now.hypotheses.now k c.args.left pairs
    c.in_ok-grown.grown.entries.items one_less
    (λ none. false≢true (sym c.if-is_done.false ∙ c.is_done.ensures.1 none))
    (c.in_ok-grown.ensures.pairs ∙ ap (λ m. inside m pairs) c.symbols.ensures) c.in_ok-tried.tried.made
    c.in_ok-tried.tried.noted c.in_ok-tried.ensures.tried
    c.in_default.is

pub returns-then-is_done-clause-more : goal.returns-then-is_done-clause-more
returns-then-is_done-clause-more g t c =
    subst (λ o. IfSome o (IsLonger c.args.left c.args.progress)) (sym c.found.ensures.made)
    c.in_ok-grown.ensures.more

pub returns-clause-more : goal.returns-clause-more
returns-clause-more g t c =
    let infos = c.args.problem.now.rules.now.symbols in
    subst (λ o. IfSome o (IsLonger c.args.left c.args.progress)) (sym c.noted_before.ensures.made)
    (longer_rounds c.args.progress infos c.args.left (c.args.left - 1) c.in_ok-grown.grown
    c.in-Some.next c.in_ok-rest.rest.made c.in_ok-grown.ensures.more
    (subst (λ o. IfSome o (IsGrown infos c.in_ok-grown.grown)) c.in-Some.is
    c.in_ok-tried.ensures.grown)
    (subst (λ (p : Progress). IfSome c.in_ok-rest.rest.made (IsLonger (c.args.left - 1) p))
    c.in-Some.next-is c.in_ok-rest.ensures.more))
