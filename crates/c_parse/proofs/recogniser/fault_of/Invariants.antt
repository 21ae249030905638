use Rattle.std.proofs.Common.{◌≡◌, [], ◌∷◌, drop, reverse}
use Rattle.c_parse.specs.Recogniser.{fault}
use Rattle.c_parse.proofs.recogniser.fault_of.Given as goal

abbrev pub invariant-loop-at : goal.invariant-loop-at
invariant-loop-at l =
    fault (reverse l.stack.items) l.at (drop l.at l.tokens) ≡ fault (l.fn.start ∷ []) 0 l.tokens
