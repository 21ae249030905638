-- The rules' pairs after none, and the hypotheses' after them.
use Rattle.std.proofs.Common.{[], subst, sym}
use Rattle.rx_pairs.specs.Pairs.{AreAllPairs, NoRules}
use Rattle.rx_pairs.proofs.pairs.all_pairs.Goals as goal

pub returns : goal.returns
returns c =
    c.in_ok-push_pairs-2.ensures c.args.rules.now
    (c.in_ok-push_pairs.ensures [] (subst (AreAllPairs []) (sym c.new-pairs.ensures.items) NoRules))
