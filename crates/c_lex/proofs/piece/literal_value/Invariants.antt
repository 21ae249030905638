use Rattle.std.proofs.Common.{◌≡◌, ◌^◌, min, take}
use Rattle.c_lex.specs.Spelling.{value_of}
use Rattle.c_lex.proofs.piece.literal_value.Given as goal

-- the value of the digits so far
abbrev pub invariant-loop-digit : goal.invariant-loop-digit
invariant-loop-digit l = l.value ≡ min (value_of (take l.digit-index l.digits)) (2 ^ 63)
