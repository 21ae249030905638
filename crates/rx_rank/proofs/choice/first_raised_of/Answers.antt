-- What comes of the symbol at hand is that of one of them.
use Rattle.std.proofs.Common.{◌≡◌, ◌∙◌, sym, subst, ℕ, List, Some, get_or, slice_get}
use Rattle.std.proofs.lemmas.Option.{slice_get-get_or}
use Rattle.std.specs.Option.{option_map}
use Rattle.rx_pairs.specs.declared.pair.Pair.{Pair}
use Rattle.rx_anchors.specs.Values.{polys_at}
use Rattle.rx_rank.specs.Answers.{still_open, tried_as}
use Rattle.rx_rank.specs.Choices.{RankChoice, choosing, raised_choices}
use Rattle.rx_rank.specs.Numbers.{Numbered}
use Rattle.rx_rank.specs.declared.fitting.Fit.{Fit}
use Rattle.rx_rank.proofs.Choosing.{choice_fits, first_of, later_choices, mapped_place}
use Rattle.rx_rank.proofs.choice.first_raised_of.Goals as goal

pub returns-then-is_some-clause-tried : goal.returns-then-is_some-clause-tried
returns-then-is_some-clause-tried g c =
    let a = c.args in
    let q = c.args.problem.now in
    let given = c.args.numbered.now.pairs in
    let symbols = q.raisable.now in
    let polys = polys_at a.choice.now in
    let raised = raised_choices symbols polys in
    let try_it = choosing q.infos.now given q.anchors.now q.order.now in
    let at = c.loop-symbol.symbol-index in
    let made = c.in_ok-attempt.attempt.made in
    let with_it : ℕ → RankChoice = λ f. record { raised = Some f; polys = polys } in
    let f = get_or symbols at 0 in
    let there : slice_get symbols at ≡ Some f =
    slice_get-get_or symbols at 0 c.loop-symbol-test.true in
    let view : Fit → List Pair = λ fit. still_open given fit.falls.items in
    let before = c.loop-symbol.noted in
    let more = c.in_ok-attempt.attempt.noted in
    let tried : record { made = option_map view made; noted = more } ≡
    choosing q.infos.now given q.anchors.now q.order.now (with_it f) =
    subst (λ (m : Numbered). tried_as (λ fit. still_open m.pairs fit.falls.items)
    c.in_ok-attempt.attempt ≡ choosing q.infos.now m.pairs q.anchors.now q.order.now (with_it f))
    c.loop-symbol.invariant.same c.in_ok-attempt.ensures.tried in
    choice_fits try_it raised at before (first_of try_it raised raised)
    c.loop-symbol.invariant.decides (with_it f) (mapped_place with_it symbols at f there) view made
    more tried (sym c.is_some.ensures ∙ c.if-is_some.true)

pub loop-symbol-preserved : goal.loop-symbol-preserved
loop-symbol-preserved g c =
    let a = c.args in
    let q = c.args.problem.now in
    let given = c.args.numbered.now.pairs in
    let symbols = q.raisable.now in
    let polys = polys_at a.choice.now in
    let raised = raised_choices symbols polys in
    let try_it = choosing q.infos.now given q.anchors.now q.order.now in
    let at = c.loop-symbol.symbol-index in
    let made = c.in_ok-attempt.attempt.made in
    let with_it : ℕ → RankChoice = λ f. record { raised = Some f; polys = polys } in
    let f = get_or symbols at 0 in
    let there : slice_get symbols at ≡ Some f =
    slice_get-get_or symbols at 0 c.loop-symbol-test.true in
    let view : Fit → List Pair = λ fit. still_open given fit.falls.items in
    let before = c.loop-symbol.noted in
    let more = c.in_ok-attempt.attempt.noted in
    let tried : record { made = option_map view made; noted = more } ≡
    choosing q.infos.now given q.anchors.now q.order.now (with_it f) =
    subst (λ (m : Numbered). tried_as (λ fit. still_open m.pairs fit.falls.items)
    c.in_ok-attempt.attempt ≡ choosing q.infos.now m.pairs q.anchors.now q.order.now (with_it f))
    c.loop-symbol.invariant.same c.in_ok-attempt.ensures.tried in
    record {
      solver = c.choosing.ensures.solver;
      same = c.choosing.ensures.same ∙ c.loop-symbol.invariant.same;
      decides = later_choices try_it raised at before (first_of try_it raised raised)
          c.loop-symbol.invariant.decides (with_it f) (mapped_place with_it symbols at f there)
          view made more tried (sym c.is_some.ensures ∙ c.if-is_some.false);
    }
