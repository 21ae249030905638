use Rattle.rx_term.proofs.CoveredLaws.{covered_moves}
use Rattle.rx_term.proofs.laws.covered_sets_step_inside.Goals as goal

pub returns : goal.returns
returns g c = λ parts made covered fitting.
    let s = g.I.Inside in
    let r = c.requires in
    covered_moves parts s.domains covered made s.inside fitting r.domains r.inner
