use Rattle.c_code.specs.declared.code.Code.{Code}
use Rattle.c_code.proofs.ProgramCode.{is-code}
use Rattle.c_code.proofs.compiling.compile.Goals as goal

pub returns-clause-code : goal.returns-clause-code
returns-clause-code c =
    let code : Code = record {
      program = c.args.program;
      whole = c.args.whole;
      ops =
          c.compile_whole.new.ops;
      entries = c.in_ok-entries.entries;
      start = c.in_ok-start.start;
    } in
    is-code code c.new-ops.result.items c.compile_functions.new.ops.items c.new-ops.ensures.items
    c.in_ok-entries.ensures c.in_ok-start.ensures
