use Rattle.rx_cover.proofs.TreeLaws.{tree_covers}
use Rattle.rx_cover.proofs.laws.a_tree_covers_its_path.Goals as goal

pub returns : goal.returns
returns c = λ rules shape a tree path e holds. tree_covers rules shape a tree path e holds
