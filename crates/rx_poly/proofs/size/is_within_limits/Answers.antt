-- The depth is at most the size.
use Rattle.std.proofs.Common.{◌∙◌, sym}
use Rattle.std.proofs.lemmas.Bool.{le-leb}
use Rattle.rx_poly.proofs.Nesting.{small_shallow}
use Rattle.rx_poly.proofs.size.is_within_limits.Goals as goal

pub returns-then-left : goal.returns-then-left
returns-then-left c =
    le-leb 4032 c.in-Some.left c.if-left.true ∙
    sym (small_shallow c.args.body.now c.in-Some.left c.in-Some.ensures c.if-left.true)
