use Rattle.std.proofs.Common.{◌≡◌, Some, None}
use Rattle.c_parse.specs.declared.read.ReadProgram.TheVariants.{Spelled}
use Rattle.c_syntax.specs.Depth.{too_deep}
use Rattle.c_parse.specs.Answers.{too_many}
use Rattle.c_parse.specs.Readers.{ReadsAll}
use Rattle.c_parse.proofs.Names.{program_named}
use Rattle.c_parse.proofs.program.parse.Goals as goal

pub returns-in-Some-too_many-clause-answer : goal.returns-in-Some-too_many-clause-answer
returns-in-Some-too_many-clause-answer c =
    let ts = c.args.tokens.now in
    let p = c.in-Ok-Spelled.program in
    let all : ReadsAll ts (Spelled p) = rw c.in-Ok-Spelled.field-0-is at c.in-Ok-Spelled.ensures in
    let deep : too_deep 0 0 ts ≡ None = cc in
    let many : too_many p ≡ Some c.in-Some-too_many.token = cc in
    (deep, (p, (all.0, many)))

pub returns-in-None-clause-named : goal.returns-in-None-clause-named
returns-in-None-clause-named c =
    let ts = c.args.tokens.now in
    let p = c.in-Ok-Spelled.program in
    let all : ReadsAll ts (Spelled p) = rw c.in-Ok-Spelled.field-0-is at c.in-Ok-Spelled.ensures in
    program_named ts p all.0
