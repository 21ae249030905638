-- What was eliminated is all that is to be, of polynomials.
use Rattle.std.proofs.Common.{◌∙◌, arith}
use Rattle.std.proofs.lemmas.Result.{IfOk-weaker}
use Rattle.rx_fm.proofs.Answering.{answered_none, answered_witness, whole}
use Rattle.rx_fm.proofs.elimination.farkas.Goals as goal

pub returns-clause-witness : goal.returns-clause-witness
returns-clause-witness c =
    let all = whole c.args.limit c.args.polys.now (omega arith)
    (c.as_slice.ensures.value ∙ c.in_ok-monos.ensures.monomials) c.in_ok-given.ensures in
    IfOk-weaker c.eliminated.result _ _ (λ a h.
    answered_witness (λ v. v.items) c.args.limit c.args.polys.now c.in_ok-monos.ensures.normal
    all a h) c.eliminated.ensures.exact

pub returns-clause-none : goal.returns-clause-none
returns-clause-none c =
    let all = whole c.args.limit c.args.polys.now (omega arith)
    (c.as_slice.ensures.value ∙ c.in_ok-monos.ensures.monomials) c.in_ok-given.ensures in
    IfOk-weaker c.eliminated.result _ _ (λ a h.
    answered_none (λ v. v.items) c.args.limit c.args.polys.now c.in_ok-monos.ensures.normal all
    a h) c.eliminated.ensures.exact
