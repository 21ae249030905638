use Rattle.rx_term.specs.Shapes.{shape_of}
use Rattle.rx_inference.proofs.PieceLaws.{same_test}
use Rattle.rx_inference.proofs.pieces.have_one_shape.Goals as goal

pub returns : goal.returns
returns c =
    same_test c.has_shape_of.result (shape_of c.args.left.now) (shape_of c.args.right.now)
    c.has_shape_of.ensures
