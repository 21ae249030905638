use Rattle.std.proofs.Common.{◌-◌, length}
use Rattle.c_syntax.specs.StmtReaders.{Collected}
use Rattle.c_syntax.specs.Statements.{InitDeclarators}
use Rattle.c_syntax.proofs.declare.declarators.Given as goal

abbrev pub invariant-names : goal.invariant-names
invariant-names l =
    Collected l.room (InitDeclarators l.tokens l.at) (InitDeclarators l.tokens) (length l.tokens)
    l.at l.found l.end

abbrev pub decreases-names : goal.decreases-names
decreases-names l = length l.tokens - l.end
