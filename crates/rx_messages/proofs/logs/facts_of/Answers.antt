-- The step and the line were found, or why they weren't.
use Rattle.std.proofs.Common.{◌∙◌, arith, refl}
use Rattle.std.proofs.lemmas.Result.{err_from_is_err_and}
use Rattle.std.specs.Option.{option_copied}
use Rattle.rx_command.specs.Commands.{bytes_of}
use Rattle.rx_messages.proofs.FactLemmas.{all_found, no_fronts, no_line, no_step, no_symbols}
use Rattle.rx_messages.proofs.logs.facts_of.Goals as goal

pub returns-in_err-found-clause-finds : goal.returns-in_err-found-clause-finds
returns-in_err-found-clause-finds g c =
    let p = err_from_is_err_and c.from_residual.result c.from_residual.ensures.1 in
    rw (p.1, p.2) (no_step (g.F.Files.held c.args.files.now) (g.F.Files.faults c.args.files.now)
    (g.F.Files.faults c.read_step.new.files) (bytes_of c.args.name) (option_copied c.args.posed)
    c.args.verdict.now c.step_wanted.result c.in_err-found.field-0.0 c.step_wanted.ensures
    c.in_err-found.ensures.finds)

pub returns-in_err-fronts-clause-finds : goal.returns-in_err-fronts-clause-finds
returns-in_err-fronts-clause-finds g c =
    let p = err_from_is_err_and c.from_residual-in_err-fronts.result
    c.from_residual-in_err-fronts.ensures.1 in
    rw (p.1, p.2) (no_fronts (g.F.Files.held c.args.files.now) (g.F.Files.held c.read_step.new.files)
    (g.F.Files.faults c.args.files.now) (g.F.Files.faults c.read_step.new.files)
    (g.F.Files.faults c.read_fronts.new.files) (bytes_of c.args.name) (option_copied c.args.posed)
    c.args.verdict.now c.is_before_steps.result c.in_err-fronts.field-0.0 c.in_ok-found.ensures.held
    c.in_ok-found.ensures.later c.is_before_steps.ensures c.in_err-fronts.ensures.finds)

pub returns-in_err-symbols-clause-finds : goal.returns-in_err-symbols-clause-finds
returns-in_err-symbols-clause-finds g c =
    let p = err_from_is_err_and c.from_residual-in_err-symbols.result
    c.from_residual-in_err-symbols.ensures.1 in
    rw (p.1, p.2) (no_symbols (g.F.Files.held c.args.files.now) (g.F.Files.held c.read_fronts.new.files)
    (g.F.Files.faults c.args.files.now) (g.F.Files.faults c.read_fronts.new.files)
    (g.F.Files.faults c.read_symbols.new.files) (bytes_of c.args.name) (option_copied c.args.posed)
    c.args.verdict.now c.is_about_rule.result c.in_err-symbols.field-0.0
    (c.in_ok-fronts.ensures.held ∙ c.in_ok-found.ensures.held)
    (omega (arith, c.in_ok-found.ensures.later, c.in_ok-fronts.ensures.later))
    c.is_about_rule.ensures c.in_err-symbols.ensures.finds)

pub returns-in_err-line-clause-finds : goal.returns-in_err-line-clause-finds
returns-in_err-line-clause-finds g c =
    let p = err_from_is_err_and c.from_residual-in_err-line.result
    c.from_residual-in_err-line.ensures.1 in
    rw (p.1, p.2) (no_line (g.F.Files.held c.args.files.now) (g.F.Files.held c.read_symbols.new.files)
    (g.F.Files.faults c.args.files.now) (g.F.Files.faults c.read_symbols.new.files)
    (g.F.Files.faults c.read_line.new.files) (bytes_of c.args.name) (option_copied c.args.posed)
    c.args.verdict.now c.in_ok-number.number c.in_err-line.field-0.0
    (c.in_ok-symbols.ensures.held ∙ (c.in_ok-fronts.ensures.held ∙ c.in_ok-found.ensures.held))
    (omega (
      arith,
      c.in_ok-found.ensures.later,
      c.in_ok-fronts.ensures.later,
      c.in_ok-symbols.ensures.later,
    ))
    c.in_err-line.ensures.finds)

pub returns-clause-finds : goal.returns-clause-finds
returns-clause-finds g c =
    all_found (g.F.Files.held c.args.files.now) (g.F.Files.held c.read_step.new.files)
    (g.F.Files.held c.read_fronts.new.files) (g.F.Files.held c.read_symbols.new.files)
    (g.F.Files.faults c.args.files.now) (g.F.Files.faults c.read_line.new.files)
    (bytes_of c.args.name) (option_copied c.args.posed) c.args.verdict.now c.step_wanted.result
    c.is_before_steps.result c.is_about_rule.result
    (record {
      posed = c.args.posed;
      found = c.in_ok-found.found;
      fronts = c.in_ok-fronts.fronts;
      symbols = c.in_ok-symbols.symbols;
      number = c.in_ok-number.number;
      line = c.in_ok-line.line;
    })
    c.in_ok-found.ensures.held (c.in_ok-fronts.ensures.held ∙ c.in_ok-found.ensures.held)
    (c.in_ok-symbols.ensures.held ∙ (c.in_ok-fronts.ensures.held ∙ c.in_ok-found.ensures.held))
    c.step_wanted.ensures c.is_before_steps.ensures c.is_about_rule.ensures refl
    c.in_ok-number.ensures c.in_ok-found.ensures.finds c.in_ok-fronts.ensures.finds
    c.in_ok-symbols.ensures.finds c.in_ok-line.ensures.finds
