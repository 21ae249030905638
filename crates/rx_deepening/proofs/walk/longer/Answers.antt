-- The path, and then the choice.
use Rattle.std.proofs.Common.{◌∙◌, ◌++◌, ◌∷◌, [], ap}
use Rattle.rx_deepening.proofs.walk.longer.Goals as goal

pub returns : goal.returns
returns c =
    c.in_ok-push.ensures.ok ∙ ap (λ path. path ++ c.args.number ∷ []) c.in_ok-made.ensures
