-- What was taken from the open file is its front, and all of it at its end.
use Rattle.std.proofs.Common.{◌≡◌, ◌∙◌, ◌+◌, ◌<◌, ℕ, [], ◌++◌, ap, inr, refl, length, length-append, take, arith}
use Rattle.std.proofs.KnownBytes.{Consumes-trans}
use Rattle.std.specs.Io.KnownBytes.{IsAtEnd}
use Rattle.std.proofs.lemmas.Result.{err_from_is_err_and}
use Rattle.rx_io.specs.Outside.{HoldsBytes, Rose}
use Rattle.rx_io.proofs.OutsideLemmas.{holds_more}
use Rattle.rx_places.proofs.FrontLemmas.{holds_all, nothing_consumed}
use Rattle.rx_logstate.proofs.LookLemmas.{finds_end, finds_said, holds_front, lines_within}
use Rattle.rx_logstate.proofs.reading.step_in_file.Goals as goal

pub loop-count-init : goal.loop-count-init
loop-count-init g c = record {
  reach = c.in-Ok.ensures.reach;
  held = c.in-Ok.ensures.held;
  later = c.in-Ok.ensures.later;
  so_far = record {
    bytes = [];
    taken = nothing_consumed (g.F.Files.left c.open.new.self);
    counted = refl;
    within = omega arith;
    stands = c.in_ok-look.ensures c.args.rules.now;
  };
}

pub finish-requires : goal.finish-requires
finish-requires g c =
    let h = c.loop-count.invariant.so_far in
    omega (arith, lines_within h.stands, h.counted, h.within, c.ranges.limit.fits)

pub returns-then-count-eq0-clause-finds : goal.returns-then-count-eq0-clause-finds
returns-then-count-eq0-clause-finds g c =
    let h = c.loop-count.invariant.so_far in
    let none : c.in-Ok-take.count ≡ 0 = c.if-count-eq0.true in
    let at : IsAtEnd (g.F.Files.left c.take.new.self) =
    c.in-Ok-take.ensures.bytes.1 none (omega arith) in
    let holds : HoldsBytes (g.F.Files.held c.args.files.now) c.args.name.now h.bytes =
    holds_all (g.F.Files.held c.args.files.now) c.args.name.now (g.F.Files.left c.open.new.self)
    (g.F.Files.left c.loop-count.files) (g.F.Files.left c.take.new.self) h.bytes
    (take c.in-Ok-take.count c.take.new.into)
    (ap (λ (n : ℕ). take n c.take.new.into) none) c.in-Ok.ensures.ok h.taken
    c.in-Ok-take.ensures.bytes.0 at in
    finds_said (g.F.Files.held c.args.files.now)
    (Rose (g.F.Files.faults c.args.files.now) (g.F.Files.faults c.take.new.self))
    c.args.name.now c.args.limit c.args.rules.now c.args.goal c.args.number h.bytes c.finish.result
    holds (c.finish.ensures c.args.rules.now c.args.goal c.args.number h.bytes h.stands)

pub returns-then-count-most-clause-finds : goal.returns-then-count-most-clause-finds
returns-then-count-most-clause-finds g c =
    let h = c.loop-count.invariant.so_far in
    let more : c.args.limit < length h.bytes + length (take c.in-Ok-take.count c.take.new.into) =
    omega (arith, c.in-Ok-take.ensures.bound.1, h.counted, h.within, c.if-count-most.true) in
    inr (inr (holds_more (g.F.Files.held c.args.files.now) c.args.name.now
    (g.F.Files.left c.open.new.self) (g.F.Files.left c.loop-count.files)
    (g.F.Files.left c.take.new.self) h.bytes _ c.args.limit c.in-Ok.ensures.ok h.taken
    c.in-Ok-take.ensures.bytes.0 more))

pub take-requires-in-loop-count : goal.take-requires-in-loop-count
take-requires-in-loop-count g c =
    let h = c.loop-count.invariant.so_far in
    omega (
      arith,
      lines_within h.stands,
      h.counted,
      h.within,
      c.ranges.limit.fits,
      c.in-Ok-take.ensures.bound.1,
      c.if-count-most.false,
    )

pub loop-count-preserved : goal.loop-count-preserved
loop-count-preserved g c =
    let h = c.loop-count.invariant.so_far in
    record {
      reach =
          g.met.F.Files.reaches_on c.args.files.now c.loop-count.files c.take.new.self
          c.loop-count.invariant.reach c.in-Ok-take.ensures.reach;
      held = c.in-Ok-take.ensures.held ∙ c.loop-count.invariant.held;
      later = omega (arith, c.loop-count.invariant.later, c.in-Ok-take.ensures.later);
      so_far = record {
        bytes = h.bytes ++ take c.in-Ok-take.count c.take.new.into;
        taken =
            Consumes-trans (g.F.Files.left c.open.new.self) (g.F.Files.left c.loop-count.files)
            (g.F.Files.left c.take.new.self) h.bytes (take c.in-Ok-take.count c.take.new.into)
            h.taken c.in-Ok-take.ensures.bytes.0;
        counted =
            omega (
              arith,
              h.counted,
              c.in-Ok-take.ensures.bound.1,
              length-append h.bytes (take c.in-Ok-take.count c.take.new.into),
            );
        within = omega (arith, h.within, c.if-count-most.false);
        stands = c.in_ok-take.ensures.takes c.args.goal c.args.number h.bytes h.stands;
      };
    }

pub returns-in_err-take-clause-reach : goal.returns-in_err-take-clause-reach
returns-in_err-take-clause-reach g c =
    g.met.F.Files.reaches_on c.args.files.now c.loop-count.files c.take.new.self
    c.loop-count.invariant.reach c.in-Ok-take.ensures.reach

pub returns-in_err-take-clause-finds : goal.returns-in_err-take-clause-finds
returns-in_err-take-clause-finds g c =
    let h = c.loop-count.invariant.so_far in
    let p = err_from_is_err_and c.from_residual-in_err-take.result
    c.from_residual-in_err-take.ensures.1 in
    let f = holds_front (g.F.Files.held c.args.files.now) c.args.name.now
    (g.F.Files.left c.open.new.self) (g.F.Files.left c.loop-count.files)
    (g.F.Files.left c.take.new.self) h.bytes (take c.in-Ok-take.count c.take.new.into)
    c.in-Ok.ensures.ok h.taken c.in-Ok-take.ensures.bytes.0 in
    rw (p.1, p.2) (finds_end (g.F.Files.held c.args.files.now)
    (Rose (g.F.Files.faults c.args.files.now) (g.F.Files.faults c.take.new.self))
    c.args.name.now c.args.limit c.args.rules.now c.args.goal c.args.number
    (h.bytes ++ take c.in-Ok-take.count c.take.new.into) f.0 c.in_err-take.field-0.0 f.1
    (λ e. c.in_err-take.ensures.bad e c.args.goal c.args.number h.bytes h.stands)
    (λ e. c.in_err-take.ensures.read e))
