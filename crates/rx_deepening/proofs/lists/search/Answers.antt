-- One round more is counted; at the end all are, and the counter comes to their outcome.
use Rattle.std.proofs.Common.{◌≡◌, ◌∙◌, ap, sym, subst, ◌+◌, ◌-◌, ℕ, ◌≤◌, [], All, arith, add-one, get_or, lit<}
use Rattle.std.proofs.lemmas.List.Elements.{All-nil}
use Rattle.rx_deepening.specs.Keeping.{IsVisited, OfLeaf, StandsForLists}
use Rattle.rx_deepening.specs.Counters.{begin, counted, outcome_by}
use Rattle.rx_deepening.specs.Views.{IfClosed, IfFound, seen_outcome, seen_counter}
use Rattle.rx_deepening.specs.Visits.{all_visits, lists, visits}
use Rattle.rx_deepening.specs.declared.kept.Progress.{Progress}
use Rattle.rx_deepening.specs.declared.counter.Ended.TheVariants.{Going}
use Rattle.rx_deepening.specs.declared.counter.Counter.{Counter}
use Rattle.rx_deepening.proofs.KeepingLaws.{of_leaf_more}
use Rattle.rx_deepening.proofs.ListLaws.{begun, first_counts, first_stands, next_counts, next_stands}
use Rattle.rx_deepening.proofs.OutcomeLaws.{counted-outcome}
use Rattle.rx_deepening.proofs.SeenLaws.{closed_if, outcome_seen}
use Rattle.rx_deepening.proofs.WalkLaws.{no-list}
use Rattle.rx_deepening.proofs.lists.search.Goals as goal

pub loop-list-init : goal.loop-list-init
loop-list-init g c =
    let w = g.T.Tree.world c.args.tree.now in
    let view = g.T.Tree.view in
    let settled = g.T.Tree.settled w in
    let menu = g.T.Tree.menu w in
    let a = c.args in
    let v = view a.start in
    let room = c.saturating_sub.result in
    let made = c.in_ok-progress.progress in
    let was = c.start_keeping-begun.ensures in
    let of_leaf = OfLeaf (g.T.Tree.valid w) 1 in
    let visited : IsVisited view settled menu (begun a.budget room)
    (λ n. visits settled menu n [] v) made =
    subst (λ (p : Progress _ _). IsVisited view settled menu p (λ n. visits settled menu n [] v)
    made) was
    (subst (λ path. IsVisited view settled menu c.start_keeping-begun.result
    (λ n. visits settled menu n path v) made) c.new.ensures c.in_ok-progress.ensures.visited) in
    record {
      ready = c.in_ok-progress.ensures.ready;
      world = c.in_ok-progress.ensures.world;
      counts = first_counts view settled menu a.budget room a.depth v made visited;
      stands = first_stands view settled menu a.budget room v made visited;
      valid =
          c.in_ok-progress.ensures.valid (subst
          (λ (p : Progress _ _). IfFound (g.T.Tree.valid w) p.counter.ended) (sym was) tt);
      leaves =
          c.in_ok-progress.ensures.leaves 1 (lit< tt)
          (subst (λ (p : Progress _ _). All of_leaf p.kept) (sym was) (All-nil of_leaf));
    }

pub loop-list-preserved : goal.loop-list-preserved
loop-list-preserved g c =
    let w = g.T.Tree.world c.args.tree.now in
    let view = g.T.Tree.view in
    let settled = g.T.Tree.settled w in
    let menu = g.T.Tree.menu w in
    let a = c.args in
    let v = view a.start in
    let at = c.loop-list in
    let same = at.invariant.world in
    let made = c.in_ok-progress-2.progress in
    let before = λ (n : ℕ). visits settled menu (n + (at._list + 1)) [] v in
    let stood = λ (u : g.T.Tree.World). at.progress.counter.ended ≡ Going
    → StandsForLists view (g.T.Tree.settled u) (g.T.Tree.menu u) at.progress.counter.note
    at.progress.kept before in
    let counts = subst (λ (u : g.T.Tree.World). stood u → seen_counter view made.counter ≡
    counted (seen_counter view at.progress.counter) (before 0))
    same (c.in_ok-progress-2.ensures.counted before) at.invariant.stands in
    let stands = subst (λ (u : g.T.Tree.World). stood u → made.counter.ended ≡ Going
    → StandsForLists view (g.T.Tree.settled u) (g.T.Tree.menu u) made.counter.note made.kept
    (λ n. before (n + 1)))
    same (c.in_ok-progress-2.ensures.stands before) at.invariant.stands in
    record {
      ready = c.in_ok-progress-2.ensures.ready;
      world = c.in_ok-progress-2.ensures.world ∙ same;
      counts =
          next_counts view settled menu at.progress made a.depth at._list v _ c.loop-list-test.true
          counts at.invariant.counts;
      stands = next_stands view settled menu made at._list v stands;
      valid =
          subst (λ (u : g.T.Tree.World). IfFound (g.T.Tree.valid u) at.progress.counter.ended →
          IfFound (g.T.Tree.valid u) made.counter.ended)
          same c.in_ok-progress-2.ensures.valid at.invariant.valid;
      leaves =
          subst (λ (u : g.T.Tree.World). All (OfLeaf (g.T.Tree.valid u) (at._list + 1))
          at.progress.kept → All (OfLeaf (g.T.Tree.valid u) ((at._list + 1) + 1)) made.kept)
          same (c.in_ok-progress-2.ensures.leaves (at._list + 1)) at.invariant.leaves;
    }

pub next_list-requires-clause-leaves : goal.next_list-requires-clause-leaves
next_list-requires-clause-leaves g c = λ k d inside.
    let at = c.loop-list in
    let kept = at.progress.kept in
    let fits : at._list + 1 ≤ 4294967295 = omega arith in
    let all = subst (λ (u : g.T.Tree.World). All (OfLeaf (g.T.Tree.valid u) (at._list + 1)) kept)
    (sym at.invariant.world) at.invariant.leaves in
    of_leaf_more (g.T.Tree.valid (g.T.Tree.world at.tree)) (at._list + 1) 4294967295 fits
    (get_or kept k d) (all k d inside)

pub returns-clause-valid : goal.returns-clause-valid
returns-clause-valid g c =
    let valid = g.T.Tree.valid (g.T.Tree.world c.args.tree.now) in
    let made = c.loop-list.progress.counter in
    subst (IfClosed valid) (sym c.outcome_of.ensures)
    (closed_if valid made.note made.ended c.loop-list.invariant.valid)

pub returns-clause-outcome : goal.returns-clause-outcome
returns-clause-outcome g c =
    let w = g.T.Tree.world c.args.tree.now in
    let view = g.T.Tree.view in
    let settled = g.T.Tree.settled w in
    let menu = g.T.Tree.menu w in
    let a = c.args in
    let v = view a.start in
    let made = c.loop-list.progress.counter in
    let none : a.depth - c.loop-list._list ≡ 0 = omega arith in
    let all : seen_counter view made ≡ counted (begin a.budget) (all_visits settled menu a.depth v)
    =
    sym (no-list settled menu (seen_counter view made) (a.depth - c.loop-list._list)
    (c.loop-list._list + 1) v none)
    ∙ c.loop-list.invariant.counts
    ∙ ap (λ n. counted (begin a.budget) (lists settled menu n 0 v)) (add-one a.depth) in
    ap (seen_outcome view) c.outcome_of.ensures ∙ outcome_seen view made
    ∙ ap (λ (t : Counter g.T.Tree.View _). outcome_by t.ended t.note) all
    ∙ counted-outcome a.budget (all_visits settled menu a.depth v)
