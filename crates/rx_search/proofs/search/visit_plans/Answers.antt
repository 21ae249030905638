-- The visits begin at a node of the search, with memos that have nothing.
use Rattle.rx_search.proofs.Finding.{none_right}
use Rattle.rx_search.proofs.Rooted.{start_is}
use Rattle.rx_search.proofs.search.visit_plans.Goals as goal

pub search-requires-clause-ready : goal.search-requires-clause-ready
search-requires-clause-ready g c =
    let s = c.args.space.now in (
      c.requires.solver,
      c.requires.lemma,
      c.in_ok-points.ensures,
      c.requires.listed,
      c.in_ok-settle_memo.ensures s.rules.now,
      none_right s.rules.now c.in_ok-choice_memo.choice_memo c.in_ok-choice_memo.ensures,
    )

pub search-requires-clause-valid : goal.search-requires-clause-valid
search-requires-clause-valid g c =
    let s = c.args.space.now in
    let goal = c.args.task.now.goal.now in
    start_is s.kind s.rules.now goal c.in_ok-start.start c.parts-made.ensures.made
    c.requires.fits c.requires.ranked c.in_ok-start.ensures.node
