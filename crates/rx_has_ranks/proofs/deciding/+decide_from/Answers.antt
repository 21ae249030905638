-- A round closes the pairs between components and those that fall, and then come the rounds that
-- are left.
use Rattle.std.proofs.Common.{◌≡◌, ◌∙◌, ◌-◌, ap, arith, suc, Vec}
use denote.Ref.{Bor}
use Rattle.std.specs.declared.alloc.Global.{Global}
use Rattle.rx_pairs.specs.declared.pair.Pair.{Pair}
use Rattle.std.specs.Option.{option_map}
use Rattle.rx_rank.specs.Answers.{pairs_at}
use Rattle.rx_rank.specs.Ranking.{ranking_from}
use Rattle.rx_rank.proofs.LentPairs.{lent_count}
use Rattle.rx_has_ranks.proofs.DecidingLaws.{all_closed, no_more_rounds, round_ends, round_goes_on}
use Rattle.rx_has_ranks.proofs.deciding.+decide_from.Goals as goal

pub returns-then-len-eq0-clause-tried : goal.returns-then-len-eq0-clause-tried
returns-then-len-eq0-clause-tried g t c =
    all_closed c.args.problem.now.kind c.args.problem.now.rules.now c.args.problem.now.hypotheses.now (pairs_at c.args.pairs.now)
    (pairs_at c.in_ok-opened.opened.pairs.items) c.in_ok-opened.ensures.pairs c.args.left
    (let count = lent_count c.in_ok-opened.opened.pairs.items in let none = c.if-len-eq0.true in
    omega (arith, count, none))

pub returns-then-left-eq0-clause-tried : goal.returns-then-left-eq0-clause-tried
returns-then-left-eq0-clause-tried g t c =
    no_more_rounds c.args.problem.now.kind c.args.problem.now.rules.now c.args.problem.now.hypotheses.now (pairs_at c.args.pairs.now)
    (pairs_at c.in_ok-opened.opened.pairs.items) c.in_ok-opened.ensures.pairs
    (let count = lent_count c.in_ok-opened.opened.pairs.items in
    λ none. c.if-len-eq0.false (omega (arith, count, none)))
    c.args.left c.if-left-eq0.true

pub returns-in-Some-clause-tried : goal.returns-in-Some-clause-tried
returns-in-Some-clause-tried g t c =
    let parts = c.args.problem.now.rules.now in
    let hypotheses = c.args.problem.now.hypotheses.now in
    let k = c.args.left - 1 in
    let some = c.if-left-eq0.false in
    let one_less : c.args.left ≡ suc k = omega (arith, some) in
    (λ i. record {
      made = option_map (λ x. tt {0}) (c.noted_before.ensures.made i);
      noted = c.noted_before.ensures.noted i;
    })
    ∙ round_goes_on c.args.problem.now.kind parts hypotheses (pairs_at c.args.pairs.now)
    (pairs_at c.in_ok-opened.opened.pairs.items) c.in_ok-opened.ensures.pairs
    (let count = lent_count c.in_ok-opened.opened.pairs.items in
    λ none. c.if-len-eq0.false (omega (arith, count, none)))
    k c.args.left one_less (option_map (λ v. pairs_at v.items) c.in_ok-tried.tried.made)
    c.in_ok-tried.tried.noted c.in_ok-tried.ensures.tried
    (pairs_at c.in-Some.next.items) (ap (option_map (λ v. pairs_at v.items)) c.in-Some.is)
    (record {
      made = option_map (λ x. tt {0}) c.in_ok-rest-in-Some.rest.made;
      noted =
          c.in_ok-rest-in-Some.rest.noted;
    })
    (c.in_ok-rest-in-Some.ensures.tried ∙
    ap (λ refs. ranking_from c.args.problem.now.kind parts hypotheses k (pairs_at refs))
    (c.as_slice-next.ensures.value ∙ ap (λ (v : Vec (Bor Pair) Global). v.items) c.in-Some.next-is))

pub returns-clause-tried : goal.returns-clause-tried
returns-clause-tried g t c =
    let k = c.args.left - 1 in
    let some = c.if-left-eq0.false in
    let one_less : c.args.left ≡ suc k = omega (arith, some) in
    round_ends c.args.problem.now.kind c.args.problem.now.rules.now c.args.problem.now.hypotheses.now (pairs_at c.args.pairs.now)
    (pairs_at c.in_ok-opened.opened.pairs.items) c.in_ok-opened.ensures.pairs
    (let count = lent_count c.in_ok-opened.opened.pairs.items in
    λ none. c.if-len-eq0.false (omega (arith, count, none)))
    k c.args.left one_less (option_map (λ v. pairs_at v.items) c.in_ok-tried.tried.made)
    c.in_ok-tried.tried.noted c.in_ok-tried.ensures.tried
    (ap (option_map (λ v. pairs_at v.items)) c.in-None.is)
