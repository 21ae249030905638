-- The expansion is found where it is formed.
use Rattle.std.proofs.Common.{refl}
use Rattle.rx_moves.proofs.ExpandLaws.{expansion_found, expansion_large, expansion_refused}
use Rattle.rx_moves.proofs.expanding.find_expansion.Goals as goal

pub returns-in-Formed : goal.returns-in-Formed
returns-in-Formed c = λ state first.
    expansion_found c.args.rules.now c.args.goal.now c.args.side c.in_ok-made.field-0
    c.in_ok-made.ensures state first c.in-Formed.made c.in-Formed.is _ c.of.result refl
    c.of.ensures

pub returns-in-Refused : goal.returns-in-Refused
returns-in-Refused c = λ state first.
    expansion_refused c.args.rules.now c.args.goal.now c.args.side c.in_ok-made.field-0
    c.in_ok-made.ensures state first c.failed.result c.in-Refused.is c.failed.ensures

pub returns-in-TooLarge : goal.returns-in-TooLarge
returns-in-TooLarge c = λ state first.
    expansion_large c.args.rules.now c.args.goal.now c.args.side c.in_ok-made.field-0
    c.in_ok-made.ensures state first c.too_large.result c.in-TooLarge.is c.too_large.ensures
