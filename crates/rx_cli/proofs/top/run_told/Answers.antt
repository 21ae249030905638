-- Where a write ended the run, a part of the report was written. What can be shown is answered.
use Rattle.std.proofs.Common.{◌∙◌, inr, map, refl, string_bytes, subst}
use Rattle.rx_command.specs.Commands.{command_of}
use Rattle.rx_io.specs.Outside.{Rose}
use Rattle.rx_cli.specs.Answers.{AnswersOrFails}
use Rattle.rx_cli.proofs.Complete.{answered_complete}
use Rattle.rx_cli.proofs.RunLemmas.{ends_cut}
use Rattle.rx_cli.proofs.ToldLemmas.{reportable_line, told_as}
use Rattle.rx_cli.proofs.top.run_told.Goals as goal

pub returns-in-Ok-put_all-clause-told : goal.returns-in-Ok-put_all-clause-told
returns-in-Ok-put_all-clause-told g c =
    told_as (g.O.Sink.contents c.args.out.now) (g.O.Sink.contents c.put_all.new.out)
    c.in-Ok.answer c.status-status.result c.line_in-verdict.result c.deref.result.now
    c.in-Ok.ensures.reportable c.status-status.ensures c.line_in-verdict.ensures
    (c.deref.ensures.value ∙ c.in-Ok-into_text.ensures.text) c.in-Ok-put_all.ensures.ok

pub returns-in-Ok-put_all-clause-reportable : goal.returns-in-Ok-put_all-clause-reportable
returns-in-Ok-put_all-clause-reportable g c =
    reportable_line c.in-Ok.answer c.line_in-verdict.result c.in-Ok.ensures.reportable
    c.line_in-verdict.ensures

pub returns-clause-ends : goal.returns-clause-ends
returns-clause-ends g c =
    ends_cut (g.F.Files.held c.args.files.now)
    (Rose (g.F.Files.faults c.args.files.now) (g.F.Files.faults c.execute.new.files))
    (Rose (g.O.Sink.faults c.args.out.now) (g.O.Sink.faults c.put_all.new.out))
    (map string_bytes c.args.words.now) (g.O.Sink.contents c.args.out.now)
    (g.O.Sink.contents c.put_all.new.out) c.in-Ok.answer c.in-Ok-into_text.text.items
    c.deref.result.now c.in-Ok.ensures.answer c.in-Ok-into_text.ensures.text
    c.deref.ensures.value c.in-Err.ensures.cause c.in-Err.ensures.err

pub returns-clause-complete : goal.returns-clause-complete
returns-clause-complete g c = λ names held can. inr (inr (inr (refl, c.in-Err.ensures.cause)))

pub returns-in-Ok-put_all-clause-complete : goal.returns-in-Ok-put_all-clause-complete
returns-in-Ok-put_all-clause-complete g c = λ names held can.
    let read_fault : Type 0 = Rose (g.F.Files.faults c.args.files.now)
    (g.F.Files.faults c.execute.new.files) in
    answered_complete names read_fault
    (Rose (g.O.Sink.faults c.args.out.now) (g.O.Sink.faults c.put_all.new.out))
    (map string_bytes c.args.words.now) c.in-Ok.answer c.status-status.result can
    (subst (λ h. AnswersOrFails h read_fault (command_of (map string_bytes c.args.words.now))
    c.in-Ok.answer) held c.in-Ok.ensures.answer) c.status-status.ensures
