-- Certificates for one part more, a part without any, or the first line behind them.
use Rattle.std.proofs.Common.{◌≡◌, Option, List, refl, subst, sym, drop, []}
use Rattle.rx_cert.specs.declared.cert.Cert.{Cert}
use Rattle.rx_domain.specs.Keeping.{keeping_from, parts_kept}
use Rattle.rx_log.specs.Acceptance.{once_kept}
use Rattle.rx_log.specs.declared.line.Line.{Line}
use Rattle.rx_log.specs.declared.line.Line.TheVariants as line
use Rattle.rx_log.specs.declared.line_state.LineState.TheVariants.{InCovers}
use Rattle.rx_check.specs.LineByLine.{IsOutcome, passed}
use Rattle.rx_check.specs.Replay.{JudgedInside}
use Rattle.rx_check.specs.declared.check_end.CheckEnd.{CheckEnd}
use Rattle.rx_check.proofs.DomainLines.{keep_judged, missing_judged, rest_judges}
use Rattle.rx_check.proofs.LineAnswers.{so_on_error, unjudged}
use Rattle.rx_check.proofs.inside.judge_inside.Goals as goal

pub returns-in-Keep-clause-judges : goal.returns-in-Keep-clause-judges
returns-in-Keep-clause-judges c =
    subst (λ (next : Line). JudgedInside c.args.used.now next c.args.kept.now c.judge_keep.new.kept
    c.args.progress.now c.args.progress.now c.in_ok-failure.failure) (sym c.in-Keep.is)
    (subst (λ (certs : List Cert). JudgedInside c.args.used.now (line.Keep certs) c.args.kept.now
    c.judge_keep.new.kept c.args.progress.now c.args.progress.now c.in_ok-failure.failure)
    c.as_slice.ensures
    (keep_judged c.args.used.now c.as_slice.result.now c.args.kept.now c.judge_keep.new.kept
    c.args.progress.now c.in_ok-failure.failure c.in_ok-failure.ensures.counted
    c.in_ok-failure.ensures.ends))

pub returns-in-Some : goal.returns-in-Some
returns-in-Some c = record {
  judges = missing_judged c.args.used.now c.args.line c.in_default.not-Keep c.args.kept.now
      c.args.progress.now c.args.progress.now c.in-Some.end
      (λ target. subst (λ (o : Option CheckEnd). IsOutcome o
      (once_kept (keeping_from c.args.kept.now (drop c.args.kept.now
      (parts_kept c.args.used.now target)) []) passed)) c.in-Some.is
      (c.missing_keep.ensures target));
  kept = tt;
  progress = tt;
  roots = c.requires.roots;
}

pub returns : goal.returns
returns c = record {
  judges = rest_judges c.args.used.now c.args.line c.in_default.not-Keep c.args.kept.now
      c.args.progress.now c.judge.new.self c.judge.result
      (λ target. subst (λ (o : Option CheckEnd). IsOutcome o
      (once_kept (keeping_from c.args.kept.now (drop c.args.kept.now
      (parts_kept c.args.used.now target)) []) passed)) c.in_default-missing_keep.is
      (c.missing_keep.ensures target))
      c.judge.ensures.judges;
  kept = so_on_error c.judge.result (c.args.kept.now ≡ c.args.kept.now) refl;
  progress = unjudged c.args.used.now (InCovers 0) c.args.line c.args.progress.now
      c.judge.new.self c.judge.result c.judge.ensures.judges;
  roots = c.judge.ensures.roots;
}
