-- The test of all left sides is the fact of all.
use Rattle.rx_goal_words.proofs.RootLaws.{all_have_roots}
use Rattle.rx_goal_words.proofs.pairs.all_have_roots.Goals as goal

pub returns : goal.returns
returns c = all_have_roots c.have_roots.result c.args.rules.now c.have_roots.ensures
