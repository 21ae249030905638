use Rattle.rx_rewriting.proofs.UnderFrames.{Step-in_context, Reaches-in_context, ReachesIn-in_context, Convertible-in_context, Joinable-in_context}
use Rattle.rx_rewriting.proofs.frames.chains_carry_under_frames.Goals as goal

pub returns-clause-step : goal.returns-clause-step
returns-clause-step g c = λ fs s t step. Step-in_context {R = g.S.System.rule} fs step

pub returns-clause-reach : goal.returns-clause-reach
returns-clause-reach g c = λ fs s t chain. Reaches-in_context {R = g.S.System.rule} fs chain

pub returns-clause-counted : goal.returns-clause-counted
returns-clause-counted g c = λ fs m s t chain. ReachesIn-in_context {R = g.S.System.rule} fs chain

pub returns-clause-join : goal.returns-clause-join
returns-clause-join g c = Joinable-in_context g.S.System.rule

pub returns-clause-conversion : goal.returns-clause-conversion
returns-clause-conversion g c =
    λ fs s t chain. Convertible-in_context {R = g.S.System.rule} fs chain
