use Rattle.std.proofs.Common.{List, Option, ℕ, length, Some, refl, ap, arith}
use Rattle.c_syntax.specs.Programs.{Listed, Parameters}
use Rattle.c_syntax.specs.Readers.{Gives}
use Rattle.c_syntax.proofs.Building.{built_some}
use Rattle.c_parse.proofs.Lists.{reads_unsaid, reads_void, builds_listed}
use Rattle.c_parse.proofs.external.parameters.Goals as goal

pub returns-then-has_mark : goal.returns-then-has_mark
returns-then-has_mark c = reads_unsaid c.args.tokens.now c.args.at _ c.if-has_mark.ensures refl refl

pub returns-then-is_void : goal.returns-then-is_void
returns-then-is_void c =
    reads_void c.args.tokens.now c.args.at _ c.if-is_void.ensures
    (ap (λ (os : List (Option ℕ)). Some os) c.new.ensures) refl

pub returns : goal.returns
returns c =
    let ts = c.args.tokens.now in
    let read : Gives (Listed ts c.args.at) c.args.at (length ts) (Some c.in-Some.read) =
    rw c.in-Some.is at c.in_ok-read.ensures in
    built_some (λ (os : List (Option ℕ)). Some os) (Listed ts c.args.at) (Parameters ts c.args.at)
    (builds_listed ts c.args.at c.if-has_mark.ensures c.if-is_void.ensures) c.args.at c.args.at
    (length ts) (omega arith) c.in-Some.read _ read refl refl
