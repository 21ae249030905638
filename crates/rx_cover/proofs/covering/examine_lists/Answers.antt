-- One turn of the walk, and its end.
use Rattle.std.proofs.Common.{◌≡◌, ◌∙◌, ap, sym, subst, arith, [], List, drop, drop_of_length-le, length, slice_get, Some, Err, ◌<◌}
use Rattle.std.proofs.lemmas.Result.{err_from_is_err_and}
use Rattle.rx_term.specs.declared.rule_set.SymInfo.{SymInfo}
use Rattle.rx_cover.specs.Answers.{Tells}
use Rattle.rx_cover.specs.Covering.{Fails, covering_from}
use Rattle.rx_term.proofs.Places.{at_some}
use Rattle.rx_cover.proofs.CoveringLaws.{lists_end, turn_covered, turn_ends, turn_there}
use Rattle.rx_cover.proofs.covering.examine_lists.Goals as goal

pub loop-sym-preserved : goal.loop-sym-preserved
loop-sym-preserved c =
    let next : slice_get c.args.lists.now c.loop-sym.sym ≡ Some c.as_slice.result.now =
    at_some c.args.lists.now c.loop-sym.sym c.as_slice.result.now c.index-lists-sym.result
    c.loop-sym-test.true (c.as_slice.ensures ∙ c.index-lists-sym.is) in record {
      decides =
          turn_covered c.args.rules.now c.loop-sym.sym c.args.lists.now c.as_slice.result.now next
          c.in_ok-cover_one.ensures.exact ∙ c.loop-sym.invariant.decides;
      there =
          turn_there c.args.rules.now c.loop-sym.sym c.args.lists.now c.as_slice.result.now next
          c.in_ok-cover_one.ensures.exact;
    }

pub returns-in_err-cover_one : goal.returns-in_err-cover_one
returns-in_err-cover_one c =
    let next : slice_get c.args.lists.now c.loop-sym.sym ≡ Some c.as_slice.result.now =
    at_some c.args.lists.now c.loop-sym.sym c.as_slice.result.now c.index-lists-sym.result
    c.loop-sym-test.true (c.as_slice.ensures ∙ c.index-lists-sym.is) in
    let p = err_from_is_err_and c.from_residual.result c.from_residual.ensures.1 in
    rw (p.1, p.2) (subst (λ z. Tells z (Err c.in_err-cover_one.field-0.0))
    c.loop-sym.invariant.decides (turn_ends c.args.rules.now c.loop-sym.sym c.args.lists.now
    c.as_slice.result.now next c.in_err-cover_one.field-0.0 c.in_err-cover_one.ensures.exact))

pub returns-then-lists-symbols : goal.returns-then-lists-symbols
returns-then-lists-symbols c =
    let none : drop c.loop-sym.sym c.args.lists.now ≡ [] =
    drop_of_length-le c.args.lists.now (omega (arith, c.loop-sym-test.false)) in
    let number : c.loop-sym.sym ≡ length c.args.lists.now =
    omega (arith, c.loop-sym-test.false, c.loop-sym.auto.sym-end) in
    sym c.loop-sym.invariant.decides
    ∙ ap (covering_from c.args.rules.now c.loop-sym.sym
    (drop c.loop-sym.sym c.args.rules.now.symbols)) none
    ∙ lists_end c.args.rules.now c.loop-sym.sym
    (subst (λ (infos : List SymInfo). c.loop-sym.sym < length infos) c.symbols.ensures
    (omega (arith, number, c.if-lists-symbols.true)))
    ∙ ap Fails number
