-- One more choice.
use Rattle.std.proofs.Common.{◌≡◌, [], ◌∷◌, length, map, subst, sym}
use Rattle.std.proofs.lemmas.Iterator.Adapters.{YieldsList-from_vec}
use Rattle.std.proofs.lemmas.Iterator.Consumers.{YieldsList-turn}
use Rattle.std.proofs.lemmas.List.{map-append}
use Rattle.std.proofs.lemmas.List.Elements.{All-get_or}
use Rattle.rx_steps.specs.Alone.{alone}
use Rattle.rx_search.specs.Known.{AreOf, CanBeTried}
use Rattle.rx_search.specs.Menu.{attempted_by}
use Rattle.rx_search.proofs.Finding.{known_grow, no_known}
use Rattle.rx_search.proofs.known.try_each.Goals as goal

pub try_alone-requires-clause-can : goal.try_alone-requires-clause-can
try_alone-requires-clause-can g c =
    let it = c.into_iter-candidate-iterator.result in
    let all = c.args.candidates in
    let past = c.loop-candidate.yielded in
    let gives = c.into_iter-candidate-iterator.ensures.into_iter_gives in
    let items : it.rest.items ≡ all = cc in
    let count : it.rest.len ≡ length all = cc in
    let turn = YieldsList-turn (YieldsList-from_vec {s = it} all items count) past
    c.loop-candidate.candidate-iterator c.loop-candidate.yielded_by
    c.next.result c.next.new.self c.in-Some.candidate c.in-Some.is c.next.ensures.steps in
    subst CanBeTried (sym turn.1)
    (All-get_or CanBeTried all (length past) c.in-Some.candidate turn.0 c.requires.can)

pub loop-candidate-init : goal.loop-candidate-init
loop-candidate-init g c = record {
  solver = c.requires.solver;
  are = no_known c.args.rules.now c.args.goal.now _ c.new-known.ensures;
}

pub loop-candidate-preserved : goal.loop-candidate-preserved
loop-candidate-preserved g c =
    let a = c.args in
    let at = attempted_by a.rules.now (alone a.goal.now) in
    let past = c.loop-candidate.yielded in
    let one = c.in-Some.candidate in
    record {
      solver = c.in_ok-try_alone.ensures.solver;
      are =
          subst (λ cs. AreOf a.rules.now a.goal.now cs c.push.new.self)
          (sym (map-append at past (one ∷ [])))
          (known_grow a.rules.now a.goal.now (map at past) (at one)
          c.in_ok-try_alone.field-0 c.loop-candidate.known c.push.new.self
          c.in_ok-try_alone.ensures.seen c.in_ok-try_alone.ensures.right
          c.in_ok-push.ensures.ok c.loop-candidate.invariant.are);
    }
