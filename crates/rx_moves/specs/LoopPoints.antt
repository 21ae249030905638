-- What is kept of the loop points of a rule set.
use Rattle.rx_term.specs.declared.rule_set.RuleParts.{RuleParts}
use Rattle.rx_pairs.specs.Loops.{AreLoopsOf}
use Rattle.rx_moves.specs.declared.loop_points.LoopPoints.{LoopPoints}

-- the loop points and components are those of the rule set
abbrev pub AreLoopPoints : RuleParts → LoopPoints → Type 0
AreLoopPoints parts points = AreLoopsOf parts points.loops
