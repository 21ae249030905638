-- Where the log can't be read, or there is no memory, nothing is written.
use Rattle.std.specs.Prelude.{◌≡◌, map, string_bytes}
use Rattle.std.proofs.Common.{◌∙◌, ap}
use Rattle.std.proofs.lemmas.Result.{err_from_is_err_and}
use Rattle.std.specs.Option.{option_copied}
use Rattle.rx_command.specs.Commands as words_say
use Rattle.rx_io.specs.Outside.{Rose}
use Rattle.rx_messages.specs.Asked.{asked_of, asked_view}
use Rattle.rx_messages.specs.Logs.{facts_view}
use Rattle.rx_messages.proofs.ExplainLemmas.{kept, no_facts, other_text}
use Rattle.rx_messages.proofs.explaining.explain.Goals as goal

pub returns-in_err-facts-clause-explains : goal.returns-in_err-facts-clause-explains
returns-in_err-facts-clause-explains g c =
    let p = err_from_is_err_and c.from_residual-in_err-facts.result
    c.from_residual-in_err-facts.ensures.1 in
    let is : asked_view c.asked_of-asked.result
    ≡ asked_of (words_say.command_of (map string_bytes c.args.words.now)) =
    c.asked_of-asked.ensures ∙ ap asked_of c.in_ok-command.ensures.command in
    rw (p.1, p.2) (no_facts (g.F.Files.held c.args.files.now) (g.F.Files.held c.read_given.new.files)
    (g.F.Files.faults c.args.files.now) (g.F.Files.faults c.read_given.new.files)
    (g.F.Files.faults c.facts_of.new.files)
    (Rose (g.O.Sink.faults c.args.err.now) (g.O.Sink.faults c.args.err.now))
    (asked_of (words_say.command_of (map string_bytes c.args.words.now)))
    (asked_view c.asked_of-asked.result) (option_copied c.args.posed) c.args.status c.args.verdict
    (g.O.Sink.contents c.args.err.now) (words_say.bytes_of c.lines_name.result)
    c.in_err-facts.field-0.0 c.in_ok-given.ensures.held c.in_ok-given.ensures.later is
    c.lines_name.ensures c.in_err-facts.ensures.finds)

pub returns-in_default-clause-explains : goal.returns-in_default-clause-explains
returns-in_default-clause-explains g c =
    let is : asked_view c.asked_of-asked.result
    ≡ asked_of (words_say.command_of (map string_bytes c.args.words.now)) =
    c.asked_of-asked.ensures ∙ ap asked_of c.in_ok-command.ensures.command in
    other_text (g.F.Files.held c.args.files.now) (g.F.Files.held c.read_given.new.files)
    (asked_of (words_say.command_of (map string_bytes c.args.words.now)))
    (asked_view c.asked_of-asked.result) (option_copied c.args.posed) c.args.status c.args.verdict
    (g.O.Sink.contents c.args.err.now) (words_say.bytes_of c.name_read.result)
    (words_say.bytes_of c.lines_name.result)
    c.in_ok-given.given.items c.deref.result.now (facts_view c.in_ok-facts.facts)
    c.in_ok-text.field-0 c.in_ok-given.ensures.held is c.name_read.ensures c.lines_name.ensures
    c.in_ok-given.ensures.reads c.deref.ensures.value c.in_ok-facts.ensures.finds
    c.in_ok-text.ensures c.in_default.is

pub returns-in_err-text-clause-explains : goal.returns-in_err-text-clause-explains
returns-in_err-text-clause-explains g c =
    let p = err_from_is_err_and c.from_residual-in_err-text.result
    c.from_residual-in_err-text.ensures.1 in
    rw (p.1, p.2) (kept (g.O.Sink.contents c.args.err.now))
