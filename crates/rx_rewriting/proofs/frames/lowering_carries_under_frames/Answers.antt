use Rattle.rx_rewriting.proofs.SmallerWeights.{lowers_under_frames}
use Rattle.rx_rewriting.proofs.frames.lowering_carries_under_frames.Goals as goal

pub returns : goal.returns
returns g c =
    let s = g.S.System in λ rank. lowers_under_frames rank s.inside s.rule c.requires.inner
