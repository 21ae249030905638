use Rattle.std.proofs.Common.{◌+◌, ◌-◌, ◌*◌, length}
use Rattle.c_syntax.specs.Readers.{Turning, Passing}
use Rattle.c_syntax.proofs.expr.+expr.Given as goal

abbrev pub decreases-expression : goal.decreases-expression
decreases-expression l = 20 * (length l.tokens.now - l.at) + 17

abbrev pub decreases-binary_level : goal.decreases-binary_level
decreases-binary_level l = 20 * (length l.tokens.now - l.at) + (2 * l.n + 2)

abbrev pub decreases-chain : goal.decreases-chain
decreases-chain l = 20 * (length l.tokens.now - l.at) + (2 * l.n + 3)

abbrev pub decreases-signed : goal.decreases-signed
decreases-signed l = 20 * (length l.tokens.now - l.at) + 1

abbrev pub decreases-primary : goal.decreases-primary
decreases-primary l = 20 * (length l.tokens.now - l.at)

abbrev pub decreases-arguments : goal.decreases-arguments
decreases-arguments l = 20 * (length l.tokens.now - l.at) + 18

abbrev pub invariant-chain-more : goal.invariant-chain-more
invariant-chain-more l = Turning l.tokens l.n l.at l.room l.left

abbrev pub decreases-chain-more : goal.decreases-chain-more
decreases-chain-more l = length l.tokens - l.left.end

abbrev pub invariant-arguments-next : goal.invariant-arguments-next
invariant-arguments-next l = Passing l.tokens l.at l.room l.found l.end l.height

abbrev pub decreases-arguments-next : goal.decreases-arguments-next
decreases-arguments-next l = length l.tokens - l.end
