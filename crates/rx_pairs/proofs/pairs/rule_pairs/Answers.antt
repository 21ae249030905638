-- All pairs of the rules, and so those that are computed.
use Rattle.std.proofs.Common.{List, [], subst, sym}
use Rattle.rx_pairs.specs.Pairs.{AreAllPairs, NoRules}
use Rattle.rx_pairs.specs.declared.pair.Pair.{Pair}
use Rattle.rx_pairs.proofs.ListedLaws.{only_all_listed}
use Rattle.rx_pairs.proofs.pairs.rule_pairs.Goals as goal

pub returns : goal.returns
returns c =
    only_all_listed c.args.rules.now c.push_pairs.new.pairs.items
    (c.in_ok-push_pairs.ensures [] (subst (λ (ps : List Pair). AreAllPairs [] ps)
    (sym c.new-pairs.ensures.items) NoRules))
