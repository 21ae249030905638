use Rattle.std.proofs.Common.{refl, sym}
use Rattle.rx_logtext.proofs.Readers.{other_kind}
use Rattle.rx_logtext.proofs.lines.read_line_of.Goals as goal

pub returns-in_default : goal.returns-in_default
returns-in_default c = (
  refl,
  λ line is.
      (rw c.in_default.is at c.in_ok-line.ensures) (line, is.1.0) is.1.1,
)

pub returns-else-is_of : goal.returns-else-is_of
returns-else-is_of c = (
  refl,
  λ line is.
      other_kind c.args.version c.args.bytes.now (c.in-Some.line, c.in-Some.field-0-1)
      (rw c.in-Some.is at c.in_ok-line.ensures) (rw c.if-is_of.false at (sym c.is_of.ensures))
      line is,
)
