use Rattle.rx_rewriting.proofs.UnderFrames.{replaceable_under_frames}
use Rattle.rx_rewriting.proofs.frames.replacing_carries_under_frames.Goals as goal

pub returns : goal.returns
returns g c =
    let s = g.S.System in
    let r = c.requires in
    replaceable_under_frames s.inside s.rule s.hypothesis r.inner r.here
