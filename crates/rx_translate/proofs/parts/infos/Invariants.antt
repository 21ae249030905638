use Rattle.rx_translate.proofs.Infos.{Listing}
use Rattle.rx_translate.proofs.parts.infos.Given as goal

abbrev pub invariant-loop-i : goal.invariant-loop-i
invariant-loop-i l = Listing l.opened l.entries l.heads l.infos l.i
