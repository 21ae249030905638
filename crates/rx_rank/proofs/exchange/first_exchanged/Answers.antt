-- What comes of the exchange at hand is that of one of them.
use Rattle.std.proofs.Common.{◌≡◌, ◌∙◌, ◌<◌, ◌≤◌, ap, sym, arith, List, None, Some, slice_get}
use Rattle.rx_pairs.specs.declared.pair.Pair.{Pair}
use Rattle.rx_rank.specs.Answers.{pairs_at, still_open}
use Rattle.rx_rank.specs.Ranking.{all_exchanges, exchanges, fit_exchanged, most_exchanges, stated_partition}
use Rattle.rx_rank.specs.declared.exchange.Exchange.{Exchange}
use Rattle.rx_rank.specs.declared.fitting.Fit.{Fit}
use Rattle.rx_rank.proofs.Choosing.{choice_fits, first_of, later_choices, no_choice, taken_past, taken_place}
use Rattle.rx_rank.proofs.exchange.first_exchanged.Goals as goal

pub returns-in-None-clause-tried : goal.returns-in-None-clause-tried
returns-in-None-clause-tried g c =
    let k = c.args.component.now in
    let all = exchanges k.parts.now k.hypotheses.now k.names.now k.name in
    let whole = all_exchanges (stated_partition k.parts.now k.hypotheses.now k.names.now k.name) in
    let try_it = fit_exchanged k.kind k.parts.now k.hypotheses.now k.names.now k.name
    (pairs_at k.pairs.now) in
    let at = c.loop-number.number in
    let below : at < most_exchanges = omega (arith, c.loop-number-test.true) in
    let none : slice_get all at ≡ None =
    taken_place most_exchanges whole at below
    ∙ ap (λ p. slice_get (all_exchanges p) at) (sym c.requires.members)
    ∙ sym c.exchange_at.ensures ∙ c.in-None.is in
    no_choice try_it all at c.loop-number.noted (first_of try_it all all)
    c.loop-number.invariant.decides none

pub returns-clause-tried : goal.returns-clause-tried
returns-clause-tried g c =
    let k = c.args.component.now in
    let all = exchanges k.parts.now k.hypotheses.now k.names.now k.name in
    let whole = all_exchanges (stated_partition k.parts.now k.hypotheses.now k.names.now k.name) in
    let try_it = fit_exchanged k.kind k.parts.now k.hypotheses.now k.names.now k.name
    (pairs_at k.pairs.now) in
    let at = c.loop-number.number in
    let past : most_exchanges ≤ at = omega (arith, c.loop-number-test.false) in
    no_choice try_it all at c.loop-number.noted (first_of try_it all all)
    c.loop-number.invariant.decides (taken_past most_exchanges whole at past)

pub returns-then-is_some-clause-tried : goal.returns-then-is_some-clause-tried
returns-then-is_some-clause-tried g c =
    let k = c.args.component.now in
    let all = exchanges k.parts.now k.hypotheses.now k.names.now k.name in
    let whole = all_exchanges (stated_partition k.parts.now k.hypotheses.now k.names.now k.name) in
    let pairs = pairs_at k.pairs.now in
    let try_it = fit_exchanged k.kind k.parts.now k.hypotheses.now k.names.now k.name pairs in
    let at = c.loop-number.number in
    let one : Exchange = c.in-Some.exchange in
    let below : at < most_exchanges = omega (arith, c.loop-number-test.true) in
    let there : slice_get all at ≡ Some one =
    taken_place most_exchanges whole at below
    ∙ ap (λ p. slice_get (all_exchanges p) at) (sym c.requires.members)
    ∙ sym c.exchange_at.ensures ∙ c.in-Some.is in
    let view : Fit → List Pair = λ fit. still_open pairs fit.falls.items in
    choice_fits try_it all at c.loop-number.noted (first_of try_it all all)
    c.loop-number.invariant.decides one there view c.in_ok-attempt.attempt.made
    c.in_ok-attempt.attempt.noted c.in_ok-attempt.ensures.tried
    (sym c.is_some.ensures ∙ c.if-is_some.true)

pub loop-number-preserved : goal.loop-number-preserved
loop-number-preserved g c =
    let k = c.args.component.now in
    let all = exchanges k.parts.now k.hypotheses.now k.names.now k.name in
    let whole = all_exchanges (stated_partition k.parts.now k.hypotheses.now k.names.now k.name) in
    let pairs = pairs_at k.pairs.now in
    let try_it = fit_exchanged k.kind k.parts.now k.hypotheses.now k.names.now k.name pairs in
    let at = c.loop-number.number in
    let one : Exchange = c.in-Some.exchange in
    let below : at < most_exchanges = omega (arith, c.loop-number-test.true) in
    let there : slice_get all at ≡ Some one =
    taken_place most_exchanges whole at below
    ∙ ap (λ p. slice_get (all_exchanges p) at) (sym c.requires.members)
    ∙ sym c.exchange_at.ensures ∙ c.in-Some.is in
    let view : Fit → List Pair = λ fit. still_open pairs fit.falls.items in
    record {
      solver = c.fit_exchanged.ensures.solver;
      decides =
          later_choices try_it all at c.loop-number.noted (first_of try_it all all)
          c.loop-number.invariant.decides one there view c.in_ok-attempt.attempt.made
          c.in_ok-attempt.attempt.noted c.in_ok-attempt.ensures.tried
          (sym c.is_some.ensures ∙ c.if-is_some.false);
    }
