use Rattle.std.proofs.Common.{◌≡◌, ◌≤◌, get_or, arith}
use Rattle.c_lex.proofs.Runs.{number_part}
use Rattle.c_lex.proofs.piece.number.Goals as goal
use Rattle.c_lex.proofs.piece.number.Goals.{else-byte_at-eq48-via-then-byte_at-eq48+else-len-ge2, else-byte_at-eq48-via-else-byte_at-eq48}

pub returns-clause-part : goal.returns-clause-part
returns-clause-part c =
    let single : get_or c.args.rest.now 0 0 ≡ 48 → c.run-len.result ≤ 1 = λ e.
    elim c.else-byte_at-eq48.branch [
      | else-byte_at-eq48-via-then-byte_at-eq48+else-len-ge2 w ↦
          omega arith
      | else-byte_at-eq48-via-else-byte_at-eq48 w ↦ omega (arith, c.byte_at.ensures)
    ]
    in
    number_part c.args.rest.now c.run-len.result c.literal_value-value.result c.run-len.ensures.len
    c.requires single c.literal_value-value.ensures (omega arith)
