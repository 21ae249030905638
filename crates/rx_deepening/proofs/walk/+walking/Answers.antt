-- What is seen of the counter counts the visits from the node on.
use Rattle.std.proofs.Common.{rules, ◌≡◌, ◌∙◌, ap, refl, sym, subst, inl, inr, ◌⊎◌, ◌<◌, true, arith, length, map, All, IfOk, None}
use Rattle.std.proofs.lemmas.Iterator.Adapters.{YieldsList-from_vec}
use Rattle.std.proofs.lemmas.Iterator.Consumers.{YieldsList-end, YieldsList-turn}
use Rattle.std.proofs.lemmas.List.Elements.{All-get_or}
use Rattle.std.proofs.lemmas.List.{map-id}
use Rattle.rx_deepening.specs.Counters.{GoesOn, counted}
use Rattle.rx_deepening.specs.Views.{IfFound, seen_choice, seen_counter}
use Rattle.rx_deepening.specs.Visits.{visits, visits_of}
use Rattle.rx_deepening.specs.declared.tree.Choice.{Choice}
use Rattle.rx_deepening.proofs.NewLaws.{next_counted}
use Rattle.rx_deepening.proofs.StepLaws.{step_found, walked_last, walked_on}
use Rattle.rx_deepening.proofs.StopLaws.{stopped_found, stopped_node}
use Rattle.rx_deepening.proofs.walk.+walking.Goals as goal
use Rattle.rx_deepening.proofs.walk.+walking.Goals.{walk-then-more-eq0-via-then-more-eq0, walk-then-more-eq0-via-else-more-eq0+then-settled}

pub walk-returns-then-not-may_visit-clause-counted :
    goal.walk-returns-then-not-may_visit-clause-counted
walk-returns-then-not-may_visit-clause-counted g t c =
    let w = g.T.Tree.world c.args.tree.now in
    let view = g.T.Tree.view in
    let a = c.args in
    let not : (GoesOn a.counter → ⊥) = search rules in
    ap (seen_counter view) c.stop.ensures
    ∙ stopped_node view (g.T.Tree.settled w) (g.T.Tree.menu w) a.counter a.more a.path.now
    (view a.node) not

pub walk-returns-then-not-may_visit-clause-valid :
    goal.walk-returns-then-not-may_visit-clause-valid
walk-returns-then-not-may_visit-clause-valid g t c = λ found.
    stopped_found (g.T.Tree.valid (g.T.Tree.world c.args.tree.now)) c.args.counter c.stop.result
    c.stop.ensures found

pub walk-returns-then-more-eq0-clause-counted : goal.walk-returns-then-more-eq0-clause-counted
walk-returns-then-more-eq0-clause-counted g t c =
    let view = g.T.Tree.view in
    let a = c.args in
    let s = c.in_ok-settled.settled in
    let goes : GoesOn a.counter = search rules in
    let last : (a.more ≡ 0) ⊎ (s.closed ≡ true) =
    elim c.then-more-eq0.branch [
      | walk-then-more-eq0-via-then-more-eq0 x ↦ inl x.if-more-eq0.true
      | walk-then-more-eq0-via-else-more-eq0+then-settled x ↦ inr x.if-settled.true
    ] in
    walked_last view g.T.Tree.settled g.T.Tree.menu (g.T.Tree.world a.tree.now) a.counter a.more
    a.path.now (view a.node) s c.count_settled.result c.in_ok-settled.ensures.settled goes last
    c.count_settled.ensures

pub walk-returns-clause-counted : goal.walk-returns-clause-counted
walk-returns-clause-counted g t c =
    let view = g.T.Tree.view in
    let a = c.args in
    let s = c.in_ok-settled.settled in
    let goes : GoesOn a.counter = search rules in
    let more : 0 < a.more = omega arith in
    walked_on view g.T.Tree.settled g.T.Tree.menu (g.T.Tree.world a.tree.now)
    (g.T.Tree.world c.settle.new.self) (g.T.Tree.world c.choose.new.tree) a.counter
    c.in_ok-chosen.chosen.counter a.more a.path.now (view a.node) s c.in_ok-chosen.chosen.choices
    c.walk_all.result c.in_ok-settled.ensures.world c.in_ok-chosen.ensures.world
    c.in_ok-settled.ensures.settled goes more c.if-settled.false c.in_ok-chosen.ensures.counted
    c.in_ok-chosen.ensures.choices c.walk_all.ensures.counted

pub walk-choose-requires-clause-valid : goal.walk-choose-requires-clause-valid
walk-choose-requires-clause-valid g t c =
    subst (λ (u : g.T.Tree.World). g.T.Tree.valid u c.in_ok-settled.settled.node)
    (sym c.in_ok-settled.ensures.world) c.in_ok-settled.ensures.valid

pub walk-choose-requires-clause-left : goal.walk-choose-requires-clause-left
walk-choose-requires-clause-left g t c =
    let goes : GoesOn c.args.counter = search rules in goes.left

pub walk-count_settled-requires : goal.walk-count_settled-requires
walk-count_settled-requires g t c =
    let goes : GoesOn c.args.counter = search rules in goes.left

pub walk-returns-then-more-eq0-clause-valid : goal.walk-returns-then-more-eq0-clause-valid
walk-returns-then-more-eq0-clause-valid g t c = λ found.
    step_found g.T.Tree.view (g.T.Tree.valid (g.T.Tree.world c.args.tree.now)) c.args.counter
    c.args.path.now c.in_ok-settled.settled None c.count_settled.result
    c.in_ok-settled.ensures.valid c.count_settled.ensures

pub walk-returns-clause-valid : goal.walk-returns-clause-valid
walk-returns-clause-valid g t c = λ found.
    let at = c.in_ok-settled.ensures.world in
    let counter = c.in_ok-chosen.chosen.counter in
    let valid = λ (u : g.T.Tree.World). IfFound (g.T.Tree.valid u) counter.ended in
    subst (λ (u : g.T.Tree.World). valid u → IfOk c.walk_all.result
    (λ t'. IfFound (g.T.Tree.valid u) t'.ended)) (c.in_ok-chosen.ensures.world ∙ at)
    c.walk_all.ensures.valid (subst valid at c.in_ok-chosen.ensures.found)

pub walk-walk_all-requires : goal.walk-walk_all-requires
walk-walk_all-requires g t c =
    let here = subst (λ (u : g.T.Tree.World). All (λ (k : Choice _). g.T.Tree.valid u k.node)
    c.in_ok-chosen.chosen.choices) (sym c.in_ok-chosen.ensures.world)
    c.in_ok-chosen.ensures.valid in
    search rules

pub walk_all-walk-requires : goal.walk_all-walk-requires
walk_all-walk-requires g t c =
    let it = c.into_iter-choice-iterator.result in
    let choices = c.args.choices in
    let past = c.loop-choice.yielded in
    let w = g.T.Tree.world c.args.tree.now in
    let of_valid = λ (u : g.T.Tree.World) (k : Choice _). g.T.Tree.valid u k.node in
    let gives = c.into_iter-choice-iterator.ensures.into_iter_gives in
    let items : it.rest.items ≡ choices = cc in
    let count : it.rest.len ≡ length choices = cc in
    let turn = YieldsList-turn (YieldsList-from_vec {s = it} choices items count) past
    c.loop-choice.choice-iterator c.loop-choice.yielded_by
    c.next.result c.next.new.self c.in-Some.choice c.in-Some.is c.next.ensures.steps in
    let one = subst (of_valid w) (sym turn.1)
    (All-get_or (of_valid w) choices (length past) c.in-Some.choice turn.0 c.requires.valid) in
    let here = subst (λ (u : g.T.Tree.World). of_valid u c.in-Some.choice)
    (sym c.loop-choice.invariant.world) one in
    search rules

pub walk_all-loop-choice-init : goal.walk_all-loop-choice-init
walk_all-loop-choice-init g t c =
    record { ready = c.requires.ready; world = refl; counts = refl; valid = λ h. h }

pub walk_all-loop-choice-preserved : goal.walk_all-loop-choice-preserved
walk_all-loop-choice-preserved g t c =
    let w = g.T.Tree.world c.args.tree.now in
    let view = g.T.Tree.view in
    let a = c.args in
    let at = c.loop-choice in
    let item = c.in-Some.choice in
    let same = at.invariant.world in
    let made = c.in_ok-counter.counter in
    let counts = subst (λ (u : g.T.Tree.World). seen_counter view made ≡
    counted (seen_counter view at.counter) (visits (g.T.Tree.settled u) (g.T.Tree.menu u) a.more
    c.as_slice.result.now (view item.node)))
    same c.in_ok-counter.ensures.counted in
    let longer = c.as_slice.ensures ∙ c.in_ok-at.ensures in
    record {
      ready = c.walk.ensures.ready;
      world = c.walk.ensures.world ∙ same;
      counts =
          next_counted view (g.T.Tree.settled w) (g.T.Tree.menu w) (seen_counter view a.counter)
          (seen_counter view at.counter) (seen_counter view made) a.more a.path.now
          c.as_slice.result.now at.yielded item longer at.invariant.counts counts;
      valid = λ h. subst (λ (u : g.T.Tree.World). IfFound (g.T.Tree.valid u) made.ended) same
          (c.in_ok-counter.ensures.valid (subst
          (λ (u : g.T.Tree.World). IfFound (g.T.Tree.valid u) at.counter.ended) (sym same)
          (at.invariant.valid h)));
    }

pub walk_all-returns-clause-counted : goal.walk_all-returns-clause-counted
walk_all-returns-clause-counted g t c =
    let w = g.T.Tree.world c.args.tree.now in
    let view = g.T.Tree.view in
    let a = c.args in
    let it = c.into_iter-choice-iterator.result in
    let gives = c.into_iter-choice-iterator.ensures.into_iter_gives in
    let items : it.rest.items ≡ a.choices = cc in
    let count : it.rest.len ≡ length a.choices = cc in
    let ends = YieldsList-end (YieldsList-from_vec {s = it} a.choices items count)
    c.loop-choice.yielded c.loop-choice.choice-iterator c.loop-choice.yielded_by c.next.result
    c.next.new.self c.in-None.is c.next.ensures.steps in
    let all : c.loop-choice.yielded ≡ a.choices = sym (map-id c.loop-choice.yielded) ∙ ends.0 in
    c.loop-choice.invariant.counts
    ∙ ap (λ cs. counted (seen_counter view a.counter) (visits_of (g.T.Tree.settled w)
    (g.T.Tree.menu w)
    a.more a.path.now (map (seen_choice view) cs))) all
