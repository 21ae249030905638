-- Each of the three decides where it passes the limits, and else leaves it to the next.
use Rattle.std.proofs.lemmas.Result.{err_from_is_err_and}
use Rattle.rx_poly.specs.declared.poly_end.PolyEnd.TheVariants.{Large}
use Rattle.rx_match.specs.Beside.{by_other_side, by_result}
use Rattle.rx_match.specs.Matching.{matching}
use Rattle.rx_match.proofs.BesideLaws.{alone_beyond, beside_beyond, result_last}
use Rattle.rx_match.proofs.beside.match_beside.Goals as goal

pub returns-in_err-alone : goal.returns-in_err-alone
returns-in_err-alone c =
    let s = c.args.spot.now in
    let p = err_from_is_err_and c.from_residual.result c.from_residual.ensures.1 in
    record {
      forms =
          rw (p.1, p.2) (λ h. alone_beyond s.hypothesis.now
          (matching s.hypothesis.now c.args.part.now)
          (by_other_side s.goal.now s.hypothesis.now s.side s.place)
          (by_result c.args.rules.now s.goal.now s.hypothesis.now s.side s.place)
          (c.in_err-alone.ensures.forms h));
    }

pub returns-in_err-beside : goal.returns-in_err-beside
returns-in_err-beside c =
    let s = c.args.spot.now in
    let p = err_from_is_err_and c.from_residual-in_err-beside.result
    c.from_residual-in_err-beside.ensures.1 in
    record {
      forms =
          rw (p.1, p.2) (λ h. beside_beyond s.hypothesis.now
          (matching s.hypothesis.now c.args.part.now)
          (by_other_side s.goal.now s.hypothesis.now s.side s.place)
          (by_result c.args.rules.now s.goal.now s.hypothesis.now s.side s.place)
          c.in_ok-alone.alone c.in_ok-alone.ensures.forms.0 c.in_ok-alone.ensures.forms.1
          (c.in_err-beside.ensures.forms h));
    }

pub returns : goal.returns
returns c =
    let s = c.args.spot.now in
    record {
      forms =
          result_last s.hypothesis.now (matching s.hypothesis.now c.args.part.now)
          (by_other_side s.goal.now s.hypothesis.now s.side s.place)
          (by_result c.args.rules.now s.goal.now s.hypothesis.now s.side s.place)
          c.in_ok-alone.alone c.in_ok-alone.ensures.forms.0 c.in_ok-alone.ensures.forms.1
          Large c.set_unset_by_result.result c.in_ok-beside.beside
          c.in_ok-beside.ensures.forms.0 c.in_ok-beside.ensures.forms.1
          c.set_unset_by_result.ensures.forms;
    }
