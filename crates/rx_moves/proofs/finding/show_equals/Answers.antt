-- All of both lists is left.
use Rattle.std.proofs.Common.{refl}
use Rattle.rx_moves.proofs.finding.show_equals.Goals as goal

pub loop-left-init : goal.loop-left-init
loop-left-init g c = record { solver = c.requires.solver; decides = refl }
