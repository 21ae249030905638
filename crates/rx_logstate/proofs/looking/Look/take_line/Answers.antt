-- A line, a part of a line, or a bad line was read.
use Rattle.std.proofs.Common.{Option, Ok, Err, subst}
use Rattle.rx_log.specs.declared.line.Line.{Line}
use Rattle.rx_logtext.specs.Readers.{IsNext, Takes, place_of}
use Rattle.rx_logtext.specs.declared.log_end.LogEnd.{LogEnd}
use Rattle.rx_logstate.proofs.LookLemmas.{bad_read, line_read, part_read}
use Rattle.rx_logstate.proofs.looking.Look.take_line.Goals as goal

pub returns-in_ok-line-in-Ok-default-Some-clause-takes :
    goal.returns-in_ok-line-in-Ok-default-Some-clause-takes
returns-in_ok-line-in-Ok-default-Some-clause-takes c = λ target number bytes h.
    line_read c.args.piece.now c.take.new.self h c.in-Ok-default-Some.count
    c.in-Ok-default-Some.line c.line.new.self
    (subst (λ (o : Option Line). Takes c.args.self.now.reader h.log bytes c.args.piece.now
    c.take.new.self (Ok (c.in-Ok-default-Some.count, o))) c.in-Ok-default-Some.field-0-1-is
    (c.in-Ok-default-Some.ensures.takes h.log bytes h.reader))
    (subst (λ (o : Option Line). IsNext (place_of c.args.self.now.reader) o
    (place_of c.take.new.self)) c.in-Ok-default-Some.field-0-1-is c.in-Ok-default-Some.ensures.next)
    c.in_ok-line-in-Ok-default-Some.ensures

pub returns-in-Ok-default-None-clause-takes : goal.returns-in-Ok-default-None-clause-takes
returns-in-Ok-default-None-clause-takes c = λ target number bytes h.
    part_read c.args.piece.now c.take.new.self h c.in-Ok-default-None.count
    (subst (λ (o : Option Line). Takes c.args.self.now.reader h.log bytes c.args.piece.now
    c.take.new.self (Ok (c.in-Ok-default-None.count, o))) c.in-Ok-default-None.field-0-1-is
    (c.in-Ok-default-None.ensures.takes h.log bytes h.reader))

pub returns-in-Err-BadLine-clause-bad : goal.returns-in-Err-BadLine-clause-bad
returns-in-Err-BadLine-clause-bad c _ = λ target number bytes h.
    bad_read c.args.piece.now c.take.new.self h c.in-Err-BadLine.field-0-0
    (subst (λ (e : LogEnd). Takes c.args.self.now.reader h.log bytes c.args.piece.now
    c.take.new.self (Err e)) c.in-Err-BadLine.field-0-is
    (c.in-Err-BadLine.ensures.takes h.log bytes h.reader))
