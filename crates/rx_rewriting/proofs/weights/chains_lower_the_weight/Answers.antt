use Rattle.rx_rewriting.proofs.SmallerWeights.{chain_lowers, chain_stays}
use Rattle.rx_rewriting.proofs.weights.chains_lower_the_weight.Goals as goal

pub returns-clause-smaller : goal.returns-clause-smaller
returns-clause-smaller g c =
    let s = g.S.System in
    let r = c.requires in
    chain_lowers s.weight s.inside s.rule r.lowers r.stays

pub returns-clause-within : goal.returns-clause-within
returns-clause-within g c =
    chain_stays g.S.System.inside g.S.System.rule c.requires.stays
