use Rattle.std.proofs.Common.{◌+◌, ◌-◌, ◌<◌, suc, length, Some, refl, arith}
use Rattle.c_lex.specs.declared.token.TokenKind.TheVariants.{Mark}
use Rattle.c_lex.specs.declared.token.Mark.TheVariants.{Assign}
use Rattle.c_syntax.specs.Grammar.{Expression, levels}
use Rattle.c_syntax.specs.Readers.{Reads}
use Rattle.c_syntax.proofs.Lookahead.{kind_within}
use Rattle.c_syntax.proofs.Declaring.{valued_reads, valued_misses}
use Rattle.c_syntax.proofs.declare.initialized.Goals as goal

pub overflow_add-at : goal.overflow_add-at
overflow_add-at c =
    let within : c.args.at + 1 < length c.args.tokens.now =
    kind_within c.args.tokens.now (c.args.at + 1) (Mark Assign) c.requires.assigned in omega arith

pub expression-requires-clause-inside : goal.expression-requires-clause-inside
expression-requires-clause-inside c =
    let within : c.args.at + 1 < length c.args.tokens.now =
    kind_within c.args.tokens.now (c.args.at + 1) (Mark Assign) c.requires.assigned in omega arith

pub returns-then-not-is_parted : goal.returns-then-not-is_parted
returns-then-not-is_parted c =
    let ts = c.args.tokens.now in
    let value : Reads (Expression ts) ts (suc levels) (c.args.at + 2) (c.args.room - 1)
    (Some c.in-Some.value) = rw c.in-Some.is at c.in_ok-value.ensures in
    valued_misses ts c.args.at c.args.room c.in-Some.value value c.requires.assigned
    c.if-not-is_parted.ensures

pub returns : goal.returns
returns c =
    let ts = c.args.tokens.now in
    let value : Reads (Expression ts) ts (suc levels) (c.args.at + 2) (c.args.room - 1)
    (Some c.in-Some.value) = rw c.in-Some.is at c.in_ok-value.ensures in
    valued_reads ts c.args.at c.args.room c.in-Some.value value c.requires.assigned _
    c.requires.named c.if-not-is_parted.ensures (omega arith) refl refl
