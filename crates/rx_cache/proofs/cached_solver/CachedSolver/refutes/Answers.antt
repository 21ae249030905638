-- An entry that has the rows answers for the solver, and stays right; otherwise the solver's answer
-- is right, and so is its entry.
use Rattle.std.proofs.Common.{◌≡◌, refl, subst, inl, inr}
use Rattle.std.specs.Prelude.{OnOk, OnErr}
use Rattle.std.specs.Fn.{CalledAt}
use Rattle.rx_solve.proofs.Calls.{answer_now, solver_then}
use Rattle.rx_solve.proofs.Phases.{answer_unmet}
use Rattle.rx_cache.specs.Cache.{IsKept}
use Rattle.rx_cache.proofs.Asked.{Cache, kept_right, stored_or_not}
use Rattle.rx_cache.proofs.Rightness.{promoted_right, repeated_right, right_then}
use Rattle.rx_cache.proofs.cached_solver.CachedSolver.refutes.Goals as goal

pub returns-in-Some-clause-known : goal.returns-in-Some-clause-known
returns-in-Some-clause-known g c =
    let r = c.in-Some.ensures in
    record {
      solver = c.requires.solver;
      right =
          right_then c.args.rows.now r.0 c.args.self.now.cache.entries c.recall.new.cache.entries
          c.requires.right r.1;
    }

pub returns-in-Some-clause-answer : goal.returns-in-Some-clause-answer
returns-in-Some-clause-answer g c =
    let r = c.in-Some.ensures in
    let right = promoted_right c.args.rows.now r.0 c.args.self.now.cache.entries
    c.recall.new.cache.entries c.requires.right r.1 in
    repeated_right c.args.rows.now r.0 c.in-Some.answer right r.2

pub returns-in-Some-clause-entries : goal.returns-in-Some-clause-entries
returns-in-Some-clause-entries g c =
    let r = c.in-Some.ensures in inl (record {
      cached = r.0;
      promoted = r.1;
      repeated = r.2;
      unasked = refl;
    })

pub returns-clause-known : goal.returns-clause-known
returns-clause-known g c =
    let same = c.in_default.ensures.1 in
    let answer = c.solve-answer.result in
    let ok = subst (λ (m : Cache). OnOk c.keep.result
    (IsKept c.args.rows.now m answer c.keep.new.cache)) same c.keep.ensures.ok in
    let err = subst (λ (m : Cache). OnErr c.keep.result (c.keep.new.cache ≡ m)) same
    c.keep.ensures.err in
    record {
      solver = solver_then g.S.FnMut c.requires.solver c.solve-answer.ensures;
      right =
          kept_right c.args.rows.now answer c.args.self.now.cache c.keep.new.cache c.keep.result ok
          err c.requires.right (answer_now g.S.FnMut c.requires.solver c.solve-answer.ensures);
    }

pub returns-clause-answer : goal.returns-clause-answer
returns-clause-answer g c = answer_now g.S.FnMut c.requires.solver c.solve-answer.ensures

pub returns-clause-entries : goal.returns-clause-entries
returns-clause-entries g c =
    let same = c.in_default.ensures.1 in
    let answer = c.solve-answer.result in
    let ok = subst (λ (m : Cache). OnOk c.keep.result
    (IsKept c.args.rows.now m answer c.keep.new.cache)) same c.keep.ensures.ok in
    let err = subst (λ (m : Cache). OnErr c.keep.result (c.keep.new.cache ≡ m)) same
    c.keep.ensures.err in
    let called : CalledAt g.S.FnMut c.args.self.now.solve c.args.rows.now answer
    c.solve-answer.new.self = record {
      shown = c.args.rows;
      shows = refl;
      called =
          c.solve-answer.ensures;
    } in
    let stored = stored_or_not c.args.rows.now answer c.args.self.now.cache c.keep.new.cache
    c.keep.result ok err in
    inr (record { unknown = c.in_default.ensures.0; asked = called; stored = stored })

pub returns-in-Some-clause-refuted : goal.returns-in-Some-clause-refuted
returns-in-Some-clause-refuted g c =
    let r = c.in-Some.ensures in
    let right = promoted_right c.args.rows.now r.0 c.args.self.now.cache.entries
    c.recall.new.cache.entries c.requires.right r.1 in
    answer_unmet c.in-Some.answer c.args.rows.now
    (repeated_right c.args.rows.now r.0 c.in-Some.answer right r.2)

pub returns-clause-refuted : goal.returns-clause-refuted
returns-clause-refuted g c =
    answer_unmet c.solve-answer.result c.args.rows.now
    (answer_now g.S.FnMut c.requires.solver c.solve-answer.ensures)
