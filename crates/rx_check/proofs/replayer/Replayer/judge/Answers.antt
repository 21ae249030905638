use Rattle.std.proofs.Common.{refl, sym}
use Rattle.rx_check.proofs.DomainAnswers.{is_open, late_judged, late_of, still_stands}
use Rattle.rx_check.proofs.replayer.Replayer.judge.Goals as goal

pub returns-then-is_some-clause-judges : goal.returns-then-is_some-clause-judges
returns-then-is_some-clause-judges c = λ goal log symbol behind stands e.
    still_stands c.args.rules.now goal c.args.self.now.place log c.args.self.now.domains
    c.args.self.now.progress c.args.self.now.failure c.args.line symbol behind
    (sym c.if-is_some.ensures) stands e

pub returns-in_ok-self-in_default : goal.returns-in_ok-self-in_default
returns-in_ok-self-in_default c = record {
  judges = late_judged c.args.rules.now c.args.line c.args.self.now
      (is_open c.args.self.now.failure (sym c.if-is_some.ensures)) c.args.self.now.place
      (late_of c.args.self.now.place c.in_default.not-AtHeader c.in_default.not-InDomains
      c.in_default.not-InKeeps) refl c.rules-used.result.now c.judge.new.self
      c.in_ok-self-in_default.field-0 c.rules-used.ensures c.in_ok-self-in_default.ensures.judges;
  place = refl;
  kept = tt;
  roots = c.judge.ensures.roots;
}
