use Rattle.rx_rewriting.proofs.Conversion.{joined_end_alike}
use Rattle.rx_rewriting.proofs.laws.joined_terms_reach_convertible_results.Goals as goal

pub returns : goal.returns
returns g c =
    let s = g.S.System in
    let r = c.requires in
    joined_end_alike s.weight s.inside s.rule s.hypothesis r.lowers r.stays r.replaceable r.moves
