-- One more generalisation.
use Rattle.std.proofs.Common.{[], ◌∷◌, map, subst, sym}
use Rattle.std.proofs.lemmas.List.{map-append}
use Rattle.rx_lemma.specs.Lemmas.{found_as}
use Rattle.rx_find_lemmas.specs.Trials.{AreTried}
use Rattle.rx_find_lemmas.proofs.Trying.{none_tried, tried_grow}
use Rattle.rx_find_lemmas.proofs.finding.try_each.Goals as goal

pub loop-general-init : goal.loop-general-init
loop-general-init g c = record {
  solver = c.requires.solver;
  are = none_tried c.args.rules.now c.args.goal.now _ c.new-found.ensures;
}

pub loop-general-preserved : goal.loop-general-preserved
loop-general-preserved g c =
    let a = c.args in
    let past = c.loop-general.yielded in
    let one = c.in-Some.general in
    record {
      solver = c.in_ok-trial.ensures.solver;
      are =
          subst (λ gs. AreTried a.rules.now a.goal.now gs c.add.new.self)
          (sym (map-append found_as past (one ∷ [])))
          (tried_grow a.rules.now a.goal.now (map found_as past) (found_as one)
          c.loop-general.found c.in_ok-trial.trial c.in_ok-trial.ensures.trial
          c.loop-general.invariant.are c.add.new.self c.in_ok-add.ensures);
    }
