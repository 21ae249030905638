use Rattle.rx_rewriting.proofs.Unions.{lowers_either, stays_either}
use Rattle.rx_rewriting.proofs.laws.unions_keep_what_both_have.Goals as goal

pub returns-clause-lowers : goal.returns-clause-lowers
returns-clause-lowers g c =
    let s = g.S.System in lowers_either s.rule s.hypothesis s.weight s.inside

pub returns-clause-stays : goal.returns-clause-stays
returns-clause-stays g c = let s = g.S.System in stays_either s.rule s.hypothesis s.inside
