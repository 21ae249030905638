-- The test of terms is that of their shapes.
use Rattle.rx_term.specs.Shapes.{shape_of}
use Rattle.rx_inference.proofs.PieceLaws.{same_test}
use Rattle.rx_match.proofs.place.has_left_shape.Goals as goal

pub returns : goal.returns
returns c =
    same_test c.has_shape_of.result (shape_of c.args.part.now) (shape_of c.args.hypothesis.now.left)
    c.has_shape_of.ensures
