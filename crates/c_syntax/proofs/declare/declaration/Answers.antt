use Rattle.std.proofs.Common.{◌<◌, length, arith}
use Rattle.c_lex.specs.declared.token.TokenKind.TheVariants.{Word}
use Rattle.c_lex.specs.declared.token.Keyword.TheVariants.{Int}
use Rattle.c_syntax.proofs.Lookahead.{kind_within}
use Rattle.c_syntax.proofs.declare.declaration.Goals as goal

pub declarators-requires-clause-inside : goal.declarators-requires-clause-inside
declarators-requires-clause-inside c =
    let within : c.args.at < length c.args.tokens.now =
    kind_within c.args.tokens.now c.args.at (Word Int) c.if-not-has_keyword.ensures in omega arith
