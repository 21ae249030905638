-- One component more, and what comes of all.
use Rattle.std.proofs.Common.{◌+◌, ◌||◌, refl, sym, subst}
use Rattle.rx_rank.specs.declared.fitting.Fit.{Fit}
use Rattle.rx_find_ranks.proofs.WalkLaws.{IsWalked, walk_begin, walk_end, walk_failed, walk_fits, walk_next}
use Rattle.rx_find_ranks.proofs.components.fit_groups.Goals as goal

pub loop-name-init : goal.loop-name-init
loop-name-init g c = record {
  solver = c.requires.solver;
  walked =
      walk_begin c.args.problem.now.kind c.args.problem.now.rules.now c.args.problem.now.hypotheses.now c.args.names.now
      c.args.groups.now
      c.in_ok-fit.fit (c.in_ok-fit.ensures c.args.names.now);
}

pub loop-name-preserved : goal.loop-name-preserved
loop-name-preserved g c =
    let noted = c.loop-name.noted in
    let more = c.in_ok-tried.tried.noted in
    record {
      solver = c.fit_one_more.ensures.solver;
      walked =
          subst (λ (f : Fit). IsWalked c.args.problem.now.kind c.args.problem.now.rules.now c.args.problem.now.hypotheses.now
          c.args.names.now
          c.args.groups.now (c.loop-name.name + 1) (noted || more) f) (sym c.in-Some.more-is)
          (walk_next c.args.problem.now.kind c.args.problem.now.rules.now c.args.problem.now.hypotheses.now c.args.names.now
          c.args.groups.now
          c.loop-name.name noted c.loop-name.fit c.loop-name.invariant.walked
          c.index-groups-name.result c.as_slice.result.now c.loop-name-test.true
          c.index-groups-name.is c.as_slice.ensures.value
          c.in_ok-tried.tried c.in_ok-tried.ensures.more (noted || more) refl c.in-Some.more
          c.in-Some.is);
    }

pub returns-in-None-clause-tried : goal.returns-in-None-clause-tried
returns-in-None-clause-tried g c =
    let noted = c.loop-name.noted in
    let more = c.in_ok-tried.tried.noted in
    walk_failed c.args.problem.now.kind c.args.problem.now.rules.now c.args.problem.now.hypotheses.now c.args.names.now
    c.args.groups.now
    c.loop-name.name noted c.loop-name.fit c.loop-name.invariant.walked
    c.index-groups-name.result c.as_slice.result.now c.loop-name-test.true
    c.index-groups-name.is c.as_slice.ensures.value
    c.in_ok-tried.tried c.in_ok-tried.ensures.more (noted || more) refl c.in-None.is

pub returns-clause-tried : goal.returns-clause-tried
returns-clause-tried g c =
    walk_end c.args.problem.now.kind c.args.problem.now.rules.now c.args.problem.now.hypotheses.now c.args.names.now c.args.groups.now
    c.loop-name.name c.loop-name.noted c.loop-name.fit c.loop-name.invariant.walked
    c.loop-name-test.false

pub returns-clause-fit : goal.returns-clause-fit
returns-clause-fit g c =
    walk_fits c.args.problem.now.kind c.args.problem.now.rules.now c.args.problem.now.hypotheses.now c.args.names.now c.args.groups.now
    c.loop-name.name c.loop-name.noted c.loop-name.fit c.loop-name.invariant.walked
    c.loop-name-test.false
