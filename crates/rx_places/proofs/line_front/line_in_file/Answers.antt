-- What was taken from the open file is its front, and all of it at its end.
use Rattle.std.proofs.Common.{◌≡◌, ◌∙◌, ◌+◌, ◌<◌, ℕ, [], ◌++◌, ap, refl, length, length-append, take, arith}
use Rattle.std.proofs.KnownBytes.{Consumes-trans}
use Rattle.std.specs.Io.KnownBytes.{IsAtEnd}
use Rattle.rx_io.specs.Outside.{HoldsBytes}
use Rattle.rx_io.proofs.OutsideLemmas.{holds_more}
use Rattle.rx_places.proofs.FrontLemmas.{holds_all, leads_on, leads_same, nothing_consumed, whole_front}
use Rattle.rx_places.proofs.line_front.line_in_file.Goals as goal

pub loop-count-init : goal.loop-count-init
loop-count-init g c = record {
  reach = c.in-Ok.ensures.reach;
  held = c.in-Ok.ensures.held;
  later = c.in-Ok.ensures.later;
  so_far = record {
    bytes = [];
    taken = nothing_consumed (g.F.Files.left c.open.new.self);
    counted = refl;
    within = omega arith;
    leads = leads_same c.start-front.result;
  };
}

pub returns-then-count-eq0-clause-line : goal.returns-then-count-eq0-clause-line
returns-then-count-eq0-clause-line g c =
    let h = c.loop-count.invariant.so_far in
    let none : c.in-Ok-take.count ≡ 0 = c.if-count-eq0.true in
    let at : IsAtEnd (g.F.Files.left c.take.new.self) =
    c.in-Ok-take.ensures.bytes.1 none (omega arith) in
    record {
      bytes = h.bytes;
      holds =
          holds_all (g.F.Files.held c.args.files.now) c.args.name.now
          (g.F.Files.left c.open.new.self) (g.F.Files.left c.loop-count.files)
          (g.F.Files.left c.take.new.self) h.bytes (take c.in-Ok-take.count c.take.new.into)
          (ap (λ (n : ℕ). take n c.take.new.into) none) c.in-Ok.ensures.ok h.taken
          c.in-Ok-take.ensures.bytes.0 at;
      within = omega (arith, h.counted, h.within);
      is =
          c.finish.ensures
          ∙ whole_front c.args.most c.args.number c.start-front.result c.loop-count.front h.bytes
          h.leads (c.start-front.ensures.front h.bytes);
    }

pub returns-then-count-left_over-clause-long : goal.returns-then-count-left_over-clause-long
returns-then-count-left_over-clause-long g c _ =
    let h = c.loop-count.invariant.so_far in
    let more : c.args.limit < length h.bytes + length (take c.in-Ok-take.count c.take.new.into) =
    omega (arith, c.in-Ok-take.ensures.bound.1, h.counted, h.within, c.if-count-left_over.true) in
    holds_more (g.F.Files.held c.args.files.now) c.args.name.now (g.F.Files.left c.open.new.self)
    (g.F.Files.left c.loop-count.files) (g.F.Files.left c.take.new.self) h.bytes _ c.args.limit
    c.in-Ok.ensures.ok
    h.taken c.in-Ok-take.ensures.bytes.0 more

pub loop-count-preserved : goal.loop-count-preserved
loop-count-preserved g c =
    let h = c.loop-count.invariant.so_far in
    record {
      reach =
          g.met.F.Files.reaches_on c.args.files.now c.loop-count.files c.take.new.self
          c.loop-count.invariant.reach c.in-Ok-take.ensures.reach;
      held = c.in-Ok-take.ensures.held ∙ c.loop-count.invariant.held;
      later = omega (arith, c.loop-count.invariant.later, c.in-Ok-take.ensures.later);
      so_far = record {
        bytes = h.bytes ++ take c.in-Ok-take.count c.take.new.into;
        taken =
            Consumes-trans (g.F.Files.left c.open.new.self) (g.F.Files.left c.loop-count.files)
            (g.F.Files.left c.take.new.self) h.bytes (take c.in-Ok-take.count c.take.new.into)
            h.taken c.in-Ok-take.ensures.bytes.0;
        counted =
            omega (
              arith,
              h.counted,
              c.in-Ok-take.ensures.bound.1,
              length-append h.bytes (take c.in-Ok-take.count c.take.new.into),
            );
        within = omega (arith, h.within, c.if-count-left_over.false);
        leads =
            leads_on c.start-front.result c.loop-count.front c.take-in-loop-count.new.self h.bytes
            (take c.in-Ok-take.count c.take.new.into) h.leads c.in-Ok-take-2.ensures;
      };
    }
