use Rattle.std.specs.Option.{option_copied}
use Rattle.rx_pairs.proofs.PartsLaws.{kept_under}
use Rattle.rx_pairs.proofs.parts.kept_part.Goals as goal

pub returns-in-Frame : goal.returns-in-Frame
returns-in-Frame c =
    kept_under c.args.left.now c.get.result.now c.args.right.now c.in-Frame.field-0
    c.in-Frame.field-1 c.in-Frame.inner (option_copied c.common_part.result)
    c.in-Frame.is c.get.ensures c.common_part.ensures
