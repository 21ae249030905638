-- Step by step.
use Rattle.rx_lemma.proofs.ShapeLaws.{naming_shapes}
use Rattle.rx_lemma.proofs.laws.naming_keeps_shapes.Goals as goal

pub returns : goal.returns
returns c = naming_shapes
