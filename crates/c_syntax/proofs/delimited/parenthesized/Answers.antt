use Rattle.std.proofs.Common.{◌<◌, length, arith}
use Rattle.c_lex.specs.declared.token.TokenKind.TheVariants.{Mark}
use Rattle.c_lex.specs.declared.token.Mark.TheVariants.{LeftParen}
use Rattle.c_syntax.proofs.Lookahead.{kind_within}
use Rattle.c_syntax.proofs.delimited.parenthesized.Goals as goal

pub expression_until-requires-clause-inside : goal.expression_until-requires-clause-inside
expression_until-requires-clause-inside c =
    let within : c.args.at < length c.args.tokens.now =
    kind_within c.args.tokens.now c.args.at (Mark LeftParen) c.if-not-has_mark.ensures in
    omega arith
