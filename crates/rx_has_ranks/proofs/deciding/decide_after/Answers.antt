-- The pairs of the rules, and then those of the hypotheses where these are all listed.
use Rattle.std.proofs.Common.{◌≡◌, ◌∙◌, ap, sym, subst, List, ◌++◌, length}
use Rattle.std.specs.Result.{IfOk}
use Rattle.rx_graph.specs.Graph.{IsOver}
use Rattle.rx_pairs.specs.Graph.{edges_of}
use Rattle.rx_pairs.specs.declared.pair.Pair.{Pair}
use Rattle.rx_rank.specs.Answers.{tried_only}
use Rattle.rx_rank.specs.Ranking.{ranking_from}
use Rattle.rx_has_ranks.proofs.DecidingLaws.{all_over, all_ranked, hypotheses_beyond}
use Rattle.rx_has_ranks.proofs.deciding.decide_after.Goals as goal

pub decide_listed-requires-clause-over : goal.decide_listed-requires-clause-over
decide_listed-requires-clause-over g c =
    let more = c.in_ok-more.more in
    subst (λ (ps : List Pair). IsOver (length c.args.problem.now.rules.now.symbols)
    (edges_of (c.args.first.now ++ ps)))
    (sym c.as_slice-others.ensures)
    (all_over c.args.problem.now.kind c.args.problem.now.rules.now c.args.problem.now.hypotheses.now c.args.first.now c.requires.listed
    more
    c.in_ok-more.ensures c.if-more.true c.parts.ensures.made c.requires.roots c.requires.fits)

pub returns-then-more-clause-tried : goal.returns-then-more-clause-tried
returns-then-more-clause-tried g c =
    let more = c.in_ok-more.more in
    subst (λ r. IfOk c.decide_listed.result (λ t. tried_only t ≡ r))
    (ap (λ (ps : List Pair). ranking_from c.args.problem.now.kind c.args.problem.now.rules.now c.args.problem.now.hypotheses.now
    7
    (c.args.first.now ++ ps)) c.as_slice-others.ensures
    ∙ all_ranked c.args.problem.now.kind c.args.problem.now.rules.now c.args.problem.now.hypotheses.now c.args.first.now
    c.requires.listed more
    c.in_ok-more.ensures c.if-more.true)
    c.decide_listed.ensures.tried

pub returns-clause-tried : goal.returns-clause-tried
returns-clause-tried g c =
    c.not_listed.ensures
    ∙ hypotheses_beyond c.args.problem.now.kind c.args.problem.now.rules.now c.args.problem.now.hypotheses.now c.args.first.now
    c.requires.listed
    c.in_ok-more.more c.in_ok-more.ensures c.if-more.false
