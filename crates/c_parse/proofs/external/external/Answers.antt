use Rattle.std.proofs.Common.{◌+◌, ◌<◌, length, arith}
use Rattle.c_lex.specs.declared.token.TokenKind.TheVariants.{Mark}
use Rattle.c_lex.specs.declared.token.Mark.TheVariants.{LeftParen}
use Rattle.c_syntax.proofs.Lookahead.{kind_within}
use Rattle.c_parse.proofs.external.external.Goals as goal

pub parameters-requires-clause-inside : goal.parameters-requires-clause-inside
parameters-requires-clause-inside c =
    let within : c.args.at + 2 < length c.args.tokens.now =
    kind_within c.args.tokens.now (c.args.at + 2) (Mark LeftParen)
    c.if-not-is_heading.ensures.1.1 in omega arith
