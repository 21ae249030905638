use Rattle.std.proofs.Common.{inl, inr, refl}
use Rattle.std.proofs.lemmas.Result.{IfOk-weaker}
use Rattle.c_front.specs.declared.stages.Next.TheVariants.{Ends, Goes}
use Rattle.rx_cli.specs.Problems.{posed}
use Rattle.rx_cli.proofs.inductions.seek.Goals as goal

pub returns-in-Ends-clause-answer : goal.returns-in-Ends-clause-answer
returns-in-Ends-clause-answer c =
    let ended : posed c.args.source.now (Ends c.in-Ends.verdict) =
    rw c.in-Ends.is at c.in_ok-verdict.ensures.stage in
    inl (c.in-Ends.verdict, ended, refl)

pub returns-in-Goes-clause-answer : goal.returns-in-Goes-clause-answer
returns-in-Goes-clause-answer c =
    let found : posed c.args.source.now (Goes c.in-Goes.problem) =
    rw c.in-Goes.is at c.in_ok-verdict.ensures.stage in
    IfOk-weaker c.on_posed.result _ _ (λ answer on. inr (c.in-Goes.problem, found, on))
    c.on_posed.ensures.answer
