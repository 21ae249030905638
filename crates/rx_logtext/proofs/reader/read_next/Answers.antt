use Rattle.std.proofs.Common.{sym, subst, ℕ, Option}
use Rattle.rx_logtext.specs.Lines.{ReadsAll, lines_of}
use Rattle.rx_log.specs.declared.line.Line.{Line}
use Rattle.rx_logtext.proofs.Readers.{never_comes}
use Rattle.rx_logtext.proofs.reader.read_next.Goals as goal

pub returns-in-None : goal.returns-in-None
returns-in-None c =
    never_comes c.args.version c.args.place c.args.bytes.now (c.in-Some.line, c.in-Some.symbol)
    (subst (λ (found : Option (Line × ℕ)). ReadsAll
    (lines_of c.args.version) c.args.bytes.now found) c.in-Some.is
    c.in_ok-line.ensures)
    (sym c.in-None.ensures)
