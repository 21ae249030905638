use Rattle.std.proofs.Common.{◌<◌, length, arith}
use Rattle.c_lex.specs.declared.token.TokenKind.TheVariants.{Mark}
use Rattle.c_lex.specs.declared.token.Mark.TheVariants.{LeftBrace}
use Rattle.c_syntax.proofs.Lookahead.{kind_within}
use Rattle.c_parse.proofs.external.block.Goals as goal

pub block_items-requires-clause-inside : goal.block_items-requires-clause-inside
block_items-requires-clause-inside c =
    let within : c.args.at < length c.args.tokens.now =
    kind_within c.args.tokens.now c.args.at (Mark LeftBrace) c.if-not-has_mark.ensures in
    omega arith
