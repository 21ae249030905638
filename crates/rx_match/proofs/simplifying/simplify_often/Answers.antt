-- A step leaves it to those after it; where none is to be taken the term is the whole.
use Rattle.std.proofs.Common.{◌≤◌, ◌∙◌, arith, refl, sym}
use Rattle.std.proofs.lemmas.Result.{err_from_is_err_and}
use Rattle.rx_match.specs.Beside.{most_simplifications}
use Rattle.rx_match.specs.Simplification.{simplified_often}
use Rattle.rx_match.proofs.SimplifyingLaws.{all_taken, no_more, no_step, one_more}
use Rattle.rx_match.proofs.simplifying.simplify_often.Goals as goal

pub loop-init : goal.loop-init
loop-init c = record { all = refl }

pub returns-in-None : goal.returns-in-None
returns-in-None c = record {
  forms =
      no_more most_simplifications c.loop.counter c.loop-test.true c.loop.invariant
      (sym c.in-None.is ∙ c.in_ok-next.ensures.forms.0) c.in_ok-next.ensures.forms.1;
}

pub loop-preserved : goal.loop-preserved
loop-preserved c =
    one_more most_simplifications c.loop.counter c.loop-test.true c.loop.invariant c.in-Some.next
    (sym c.in-Some.is ∙ c.in_ok-next.ensures.forms.0) c.in_ok-next.ensures.forms.1

pub returns-in_err-next : goal.returns-in_err-next
returns-in_err-next c =
    let p = err_from_is_err_and c.from_residual.result c.from_residual.ensures.1 in
    record {
      forms =
          rw (p.1, p.2) (λ h. no_step most_simplifications c.loop.counter c.loop-test.true
          c.loop.invariant (c.in_err-next.ensures.forms h));
    }

pub returns : goal.returns
returns c =
    let over : most_simplifications ≤ c.loop.counter = omega arith in
    record {
      forms =
          all_taken c.args.rules.now c.loop.term
          (simplified_often c.args.rules.now most_simplifications c.args.term)
          most_simplifications c.loop.counter over c.loop.invariant;
    }
