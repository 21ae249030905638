use Rattle.std.proofs.Common.{◌+◌, ◌<◌, length, arith}
use Rattle.c_lex.specs.declared.token.TokenKind.TheVariants.{Name}
use Rattle.c_syntax.proofs.Lookahead.{kind_within}
use Rattle.c_syntax.proofs.ChangeLemmas.{steps_before, steps_after}
use Rattle.c_syntax.proofs.changes.change.Goals as goal

pub overflow_cast-at : goal.overflow_cast-at
overflow_cast-at c =
    let within : c.args.at + 1 < length c.args.tokens.now =
    kind_within c.args.tokens.now (c.args.at + 1) Name c.if-not-has_name.ensures in omega arith

pub returns-in-Some : goal.returns-in-Some
returns-in-Some c =
    steps_before c.args.mark c.args.tokens.now c.args.at c.args.room c.in-Some.op _
    c.in-Some.ensures c.if-not-has_name.ensures c.increment.ensures

pub returns-in-Some-step_at : goal.returns-in-Some-step_at
returns-in-Some-step_at c =
    steps_after c.args.mark c.args.tokens.now c.args.at c.args.room c.in-Some-step_at.op _
    c.if-not-has_name-2.ensures c.in-Some-step_at.ensures c.increment-in-Some-step_at.ensures
