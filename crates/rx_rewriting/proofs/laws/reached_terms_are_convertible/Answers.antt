use Rattle.rx_rewriting.proofs.Conversion.{reached_convertible, joined_convertible, conversion}
use Rattle.rx_rewriting.proofs.laws.reached_terms_are_convertible.Goals as goal

pub returns-clause-reached : goal.returns-clause-reached
returns-clause-reached g c =
    let s = g.S.System in
    let r = c.requires in
    let from = reached_convertible s.weight s.inside s.rule s.hypothesis r.lowers r.stays
    r.replaceable in
    λ a b in_a chain. from a in_a b chain

pub returns-clause-joined : goal.returns-clause-joined
returns-clause-joined g c =
    let s = g.S.System in
    let r = c.requires in
    joined_convertible s.weight s.inside s.rule s.hypothesis r.lowers r.stays r.replaceable

pub returns-clause-everywhere : goal.returns-clause-everywhere
returns-clause-everywhere g c =
    let s = g.S.System in
    let r = c.requires in
    conversion s.weight s.inside s.rule s.hypothesis r.lowers r.stays r.replaceable
