use Rattle.rx_rewriting.proofs.Induction.{ends_inside}
use Rattle.rx_rewriting.proofs.laws.inside_terms_reach_results.Goals as goal

pub returns : goal.returns
returns g c =
    let s = g.S.System in
    let r = c.requires in
    ends_inside s.weight s.inside s.rule r.lowers r.stays r.moves
