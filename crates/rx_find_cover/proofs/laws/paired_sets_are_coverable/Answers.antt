-- Each shape has a tree, so each symbol.
use Rattle.rx_find_cover.proofs.Paired.{paired_coverable}
use Rattle.rx_find_cover.proofs.laws.paired_sets_are_coverable.Goals as goal

pub returns : goal.returns
returns c = λ parts paired none. paired_coverable parts paired none
