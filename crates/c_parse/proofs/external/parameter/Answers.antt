use Rattle.std.proofs.Common.{◌+◌, ◌<◌, length, refl, arith}
use Rattle.c_lex.specs.declared.token.TokenKind.TheVariants.{Name}
use Rattle.c_syntax.proofs.Lookahead.{kind_within}
use Rattle.c_parse.proofs.Lists.{reads_named, reads_nameless}
use Rattle.c_parse.proofs.external.parameter.Goals as goal

pub overflow_cast-result : goal.overflow_cast-result
overflow_cast-result c =
    let within : c.args.at + 1 < length c.args.tokens.now =
    kind_within c.args.tokens.now (c.args.at + 1) Name c.if-has_name.ensures in omega arith

pub returns-then-has_name : goal.returns-then-has_name
returns-then-has_name c =
    reads_named c.args.tokens.now c.args.at _ c.if-not-has_keyword.ensures c.if-has_name.ensures refl refl

pub returns : goal.returns
returns c =
    reads_nameless c.args.tokens.now c.args.at _ c.if-not-has_keyword.ensures c.if-has_name.ensures refl refl
