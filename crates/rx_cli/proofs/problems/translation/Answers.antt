use Rattle.std.proofs.Common.{◌∙◌, Err, ap}
use Rattle.rx_cli.proofs.Ready.{arities_agree}
use Rattle.rx_cli.proofs.problems.translation.Goals as goal

pub unreachable-requires : goal.unreachable-requires
unreachable-requires c =
    arities_agree c.args.compared.now c.requires c.in-Err-ArityDiffers.field-0-0
    c.in-Err-ArityDiffers.field-0-1
    ((c.rules_of.ensures.arity c.in-Err-ArityDiffers.field-0-0 c.in-Err-ArityDiffers.field-0-1).0
    (c.in-Err-ArityDiffers.is ∙ ap Err c.in-Err-ArityDiffers.field-0-is))
