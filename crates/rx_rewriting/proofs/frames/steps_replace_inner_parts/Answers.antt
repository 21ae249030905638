use Rattle.rx_rewriting.proofs.UnderFrames.{Step-replaces, replaces-Step}
use Rattle.rx_rewriting.proofs.frames.steps_replace_inner_parts.Goals as goal

pub returns : goal.returns
returns g c = let rule = g.S.System.rule in λ s t. (Step-replaces rule s t, replaces-Step rule s t)
