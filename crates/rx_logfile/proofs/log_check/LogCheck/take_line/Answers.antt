use Rattle.std.proofs.Common.{◌∙◌, Option, Ok, Err, Some, ap, subst, sym}
use Rattle.rx_log.specs.declared.line.Line.{Line}
use Rattle.rx_logtext.specs.Readers.{IsNext, MayLead, Takes, place_of}
use Rattle.rx_logtext.specs.declared.log_end.LogEnd.{LogEnd}
use Rattle.rx_logfile.proofs.LogFileLemmas.{bad_read, line_replayed, may_come, part_read}
use Rattle.rx_logfile.proofs.log_check.LogCheck.take_line.Goals as goal

pub line-requires-clause-comes : goal.line-requires-clause-comes
line-requires-clause-comes c =
    let leads : MayLead (place_of c.args.self.now.reader) c.in-Ok-default-Some.line
    (place_of c.take.new.self) =
    subst (λ (o : Option Line). IsNext (place_of c.args.self.now.reader) o
    (place_of c.take.new.self)) c.in-Ok-default-Some.field-0-1-is
    c.in-Ok-default-Some.ensures.next in
    may_come c.in-Ok-default-Some.line (place_of c.take.new.self) c.place-place.result
    c.requires.step leads c.place-place.ensures

pub returns-in_ok-line-in-Ok-default-Some-clause-takes :
    goal.returns-in_ok-line-in-Ok-default-Some-clause-takes
returns-in_ok-line-in-Ok-default-Some-clause-takes c = λ target bytes h.
    let leads : MayLead (place_of c.args.self.now.reader) c.in-Ok-default-Some.line
    (place_of c.take.new.self) =
    subst (λ (o : Option Line). IsNext (place_of c.args.self.now.reader) o
    (place_of c.take.new.self)) c.in-Ok-default-Some.field-0-1-is
    c.in-Ok-default-Some.ensures.next in
    line_replayed {new = record { reader = c.take.new.self; replayer = c.line.new.self }}
    c.args.piece.now c.in-Ok-default-Some.count c.in-Ok-default-Some.line h
    (subst (λ (o : Option Line). Takes c.args.self.now.reader h.log h.front c.args.piece.now
    c.take.new.self (Ok (c.in-Ok-default-Some.count, o))) c.in-Ok-default-Some.field-0-1-is
    (c.in-Ok-default-Some.ensures.takes h.log h.front h.reader)) c.requires.step leads
    (λ its symbol s comes. c.in_ok-line-in-Ok-default-Some.ensures.stands target its symbol s
    (comes ∙ ap Some (sym c.place-place.ensures)))

pub returns-in-Ok-default-None-clause-takes : goal.returns-in-Ok-default-None-clause-takes
returns-in-Ok-default-None-clause-takes c = λ target bytes h.
    part_read c.args.piece.now c.in-Ok-default-None.count c.take.new.self h
    (subst (λ (o : Option Line). Takes c.args.self.now.reader h.log h.front c.args.piece.now
    c.take.new.self (Ok (c.in-Ok-default-None.count, o))) c.in-Ok-default-None.field-0-1-is
    (c.in-Ok-default-None.ensures.takes h.log h.front h.reader))

pub returns-in-Err-BadLine-clause-takes : goal.returns-in-Err-BadLine-clause-takes
returns-in-Err-BadLine-clause-takes c = λ target bytes h.
    bad_read c.args.piece.now c.in-Err-BadLine.field-0-0 c.take.new.self h
    (subst (λ (e : LogEnd). Takes c.args.self.now.reader h.log h.front c.args.piece.now
    c.take.new.self (Err e)) c.in-Err-BadLine.field-0-is
    (c.in-Err-BadLine.ensures.takes h.log h.front h.reader))
