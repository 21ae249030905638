use Rattle.std.proofs.Common.{◌≡◌, length, Some, None, refl, sym}
use Rattle.c_syntax.specs.Statements.{CompoundStatement}
use Rattle.c_syntax.specs.Heights.{list_height}
use Rattle.c_syntax.specs.Programs.{names_of}
use Rattle.c_syntax.specs.Readers.{Gives, IsNoHigher}
use Rattle.c_parse.proofs.Phrases.{gives_nameless, gives_bodiless, gives_function}
use Rattle.c_parse.proofs.external.function.Goals as goal

pub returns-in_default : goal.returns-in_default
returns-in_default c =
    let x = c.args.params.now in
    let none : names_of x.value ≡ None = sym (rw c.in_default.is at c.in_ok-names.ensures) in
    gives_nameless c.args.tokens.now c.args.at x c.requires.params c.requires.continued none

pub returns-in_default-2 : goal.returns-in_default-2
returns-in_default-2 c =
    let ts = c.args.tokens.now in
    let x = c.args.params.now in
    let body : Gives (IsNoHigher list_height 200 (CompoundStatement ts x.end)) x.end (length ts)
    None =
    rw c.in_default-2.is at c.in_ok-body.ensures in
    gives_bodiless ts c.args.at x c.requires.params c.requires.continued body

pub returns : goal.returns
returns c =
    let ts = c.args.tokens.now in
    let x = c.args.params.now in
    let names : names_of x.value ≡ Some c.in-Some.names =
    sym (rw c.in-Some.is at c.in_ok-names.ensures) in
    let body : Gives (IsNoHigher list_height 200 (CompoundStatement ts x.end)) x.end (length ts)
    (Some c.in-Some-2.body) = rw c.in-Some-2.is at c.in_ok-body.ensures in
    gives_function ts c.args.at x c.requires.params c.requires.continued c.in-Some.names
    c.in-Some-2.body _ c.requires.heading names body refl refl
