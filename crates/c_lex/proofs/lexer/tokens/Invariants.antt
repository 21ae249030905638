use Rattle.std.proofs.Common.{◌-◌, length}
use Rattle.c_lex.proofs.Found.{Found}
use Rattle.c_lex.proofs.lexer.tokens.Given as goal

abbrev pub invariant-pieces : goal.invariant-pieces
invariant-pieces l = Found l.source l.fresh l.at l.found.items

abbrev pub decreases-pieces : goal.decreases-pieces
decreases-pieces l = length l.source - l.at
