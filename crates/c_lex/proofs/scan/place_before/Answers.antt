use Rattle.std.proofs.Common.{◌≡◌, true, false, drop, sym, ap, ◌∙◌, arith}
use Rattle.c_lex.specs.Classes.{stop_test}
use Rattle.c_lex.proofs.Scans.{until_found, until_more}
use Rattle.c_lex.proofs.scan.place_before.Goals as goal

pub returns-then-stands : goal.returns-then-stands
returns-then-stands c =
    let test : stop_test c.args.stop (drop c.loop-at.at c.args.text.now) ≡ true =
    ap (stop_test c.args.stop) (sym c.rest_from.ensures) ∙ sym c.stands.ensures ∙
    c.if-stands.true in
    until_found (stop_test c.args.stop) c.args.text.now c.loop-at.at c.args.limit (omega arith)
    (omega arith) c.loop-at.invariant test

pub loop-at-preserved : goal.loop-at-preserved
loop-at-preserved c =
    let test : stop_test c.args.stop (drop c.loop-at.at c.args.text.now) ≡ false =
    ap (stop_test c.args.stop) (sym c.rest_from.ensures) ∙ sym c.stands.ensures ∙
    c.if-stands.false in
    until_more (stop_test c.args.stop) c.args.text.now c.loop-at.at (omega arith)
    c.loop-at.invariant test
