-- Both walks begin where the two are equally deep.
use Rattle.std.proofs.Common.{arith}
use Rattle.std.specs.Option.{option_copied}
use Rattle.rx_pairs.proofs.CommonLaws.{at_level}
use Rattle.rx_pairs.proofs.common.common_part.Goals as goal

pub common_at_depth-requires : goal.common_at_depth-requires
common_at_depth-requires c =
    omega (
      arith,
      c.beyond.ensures.depth,
      c.beyond-here.ensures.depth,
      c.beyond-2.ensures.depth,
      c.beyond-there.ensures.depth,
    )

pub returns : goal.returns
returns c =
    let here = c.beyond-here in
    let there = c.beyond-there in
    at_level c.args.left.now c.args.right.now here.result.now there.result.now here.ensures.part
    there.ensures.part
    (omega (
      arith,
      c.beyond.ensures.depth,
      here.ensures.depth,
      c.beyond-2.ensures.depth,
      there.ensures.depth,
    ))
    (λ u in_left in_right. omega (
      arith,
      in_left,
      in_right,
      c.beyond.ensures.depth,
      here.ensures.depth,
    ))
    (option_copied c.common_at_depth.result) c.common_at_depth.ensures
