-- The equation, and what stands behind it.
use Rattle.std.proofs.lemmas.Result.{on_ok_weaker}
use Rattle.rx_term.specs.declared.rule.Equation.{Equation}
use Rattle.rx_logwriting.proofs.Written.{postulate_joined}
use Rattle.rx_logwriting.proofs.step_writing.push_postulate.Goals as goal

pub returns : goal.returns
returns c =
    let g : Equation = record {
      left = c.args.left.now;
      right = c.args.right.now;
      rows = c.args.rows.now;
    } in
    on_ok_weaker c.push_new_certs.result
    (postulate_joined c.args.version c.args.out.now.items g c.args.certs.now c.in_ok-push_word.ensures c.rows.ensures
    c.in_ok-push_equation.ensures)
    c.push_new_certs.ensures
