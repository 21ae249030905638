use Rattle.std.proofs.Common.{◌+◌, ◌≤◌, ◌<◌, List, Option, ℕ, length, refl, ap, arith}
use Rattle.c_lex.specs.declared.token.TokenKind.TheVariants.{Mark}
use Rattle.c_lex.specs.declared.token.Mark.TheVariants.{Semicolon}
use Rattle.c_ast.specs.Height.{of_option}
use Rattle.c_syntax.proofs.Lookahead.{kind_within}
use Rattle.c_parse.proofs.Lists.{parameters_short}
use Rattle.c_parse.proofs.Phrases.{the_prototype, gives_prototype}
use Rattle.c_parse.proofs.external.prototype.Goals as goal

pub count_of-requires : goal.count_of-requires
count_of-requires c =
    let ts = c.args.tokens.now in
    let x = c.args.params.now in
    let short : of_option (λ (os : List (Option ℕ)). length os) x.value ≤ x.end =
    parameters_short ts (c.args.at + 3) x.end x.value c.requires.params.found.spelled in
    let within : x.end < length ts = kind_within ts x.end (Mark Semicolon) c.requires.ended in
    omega arith

pub returns : goal.returns
returns c =
    gives_prototype c.args.tokens.now c.args.at c.args.params.now c.requires.params _
    c.requires.heading c.requires.ended (ap (the_prototype (c.args.at + 1)) c.count_of.ensures)
    refl
