use Rattle.std.proofs.Common.{drop}
use Rattle.rx_term.specs.Replacements.{replacements}
use Rattle.rx_term.proofs.Changing.{Changing}
use Rattle.rx_term.proofs.arguments.substituted.Given as goal

abbrev pub invariant-loop-poly : goal.invariant-loop-poly
invariant-loop-poly l = Changing (replacements l.with) l.made (drop l.poly-index l.polys) l.polys
