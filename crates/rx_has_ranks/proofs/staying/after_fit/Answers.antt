-- The pairs that the fit leaves open are some of the component's.
use Rattle.std.proofs.Common.{◌∙◌, ap, subst, sym, List, Some}
use Rattle.std.specs.Option.{option_map}
use Rattle.rx_graph.specs.Graph.{IsOver}
use Rattle.rx_pairs.specs.Graph.{edges_of}
use Rattle.rx_pairs.specs.declared.pair.Pair.{Pair}
use Rattle.rx_rank.specs.Answers.{pairs_at, still_open}
use Rattle.rx_rank.specs.declared.fitting.Fit.{Fit}
use Rattle.rx_has_ranks.proofs.StayingLaws.{over_open}
use Rattle.rx_has_ranks.proofs.staying.after_fit.Goals as goal

pub returns-in_ok-still_open-in-Some-clause-tried :
    goal.returns-in_ok-still_open-in-Some-clause-tried
returns-in_ok-still_open-in-Some-clause-tried c =
    let pairs = pairs_at c.args.pairs.now in
    let view : Fit → List Pair = λ fit. still_open pairs fit.falls.items in
    λ i. record {
      made = (ap Some (c.in_ok-still_open-in-Some.ensures ∙ ap (still_open pairs)
          (c.as_slice.ensures.value ∙ ap (λ (fit : Fit). fit.falls.items) c.in-Some.fit-is))
          ∙ ap (option_map view) (sym c.in-Some.is)) i;
      noted = c.args.tried.noted;
    }

pub returns-in_ok-still_open-in-Some-clause-over : goal.returns-in_ok-still_open-in-Some-clause-over
returns-in_ok-still_open-in-Some-clause-over c = λ n over.
    let pairs = pairs_at c.args.pairs.now in
    subst (λ ps. IsOver n (edges_of ps))
    (sym {b = still_open pairs c.as_slice.result.now} c.in_ok-still_open-in-Some.ensures)
    (over_open n pairs c.as_slice.result.now over)
