-- The pairs inside components have the same components.
use Rattle.std.proofs.Common.{◌∙◌, ap, length, subst, sym}
use Rattle.std.specs.List.{filter}
use Rattle.rx_graph.specs.Graph.{IsOver}
use Rattle.rx_pairs.specs.Graph.{edges_of}
use Rattle.rx_rank.specs.Answers.{pairs_at}
use Rattle.rx_rank.specs.Components.{is_inside, representatives_of}
use Rattle.rx_has_ranks.proofs.InsideLaws.{names_inside}
use Rattle.rx_has_ranks.proofs.StayingLaws.{over_filtered}
use Rattle.rx_has_ranks.proofs.staying.open_pairs.Goals as goal

pub returns-clause-pairs : goal.returns-clause-pairs
returns-clause-pairs c =
    let pairs = pairs_at c.args.pairs.now in
    c.in_ok-left.ensures ∙ ap (λ ns. filter (is_inside ns) pairs)
    (c.as_slice.ensures.value ∙ c.in_ok-names.ensures.names ∙ ap (λ k. representatives_of k pairs)
    c.symbols.ensures)

pub returns-clause-names : goal.returns-clause-names
returns-clause-names c =
    let pairs = pairs_at c.args.pairs.now in
    let n = length c.args.problem.now.rules.now.symbols in
    let names = c.in_ok-names.ensures.names ∙ ap (λ k. representatives_of k pairs) c.symbols.ensures in
    names ∙ sym (names_inside n pairs c.requires.over)
    ∙ ap (representatives_of n) (sym (c.in_ok-left.ensures ∙ ap (λ ns. filter (is_inside ns) pairs)
    (c.as_slice.ensures.value ∙ names)))

pub returns-clause-over : goal.returns-clause-over
returns-clause-over c =
    let pairs = pairs_at c.args.pairs.now in
    let n = length c.args.problem.now.rules.now.symbols in
    subst (λ ps. IsOver n (edges_of ps))
    (sym (c.in_ok-left.ensures ∙ ap (λ ns. filter (is_inside ns) pairs)
    (c.as_slice.ensures.value ∙ c.in_ok-names.ensures.names ∙ ap (λ k. representatives_of k pairs)
    c.symbols.ensures)))
    (over_filtered n (is_inside (representatives_of n pairs)) pairs c.requires.over)
