-- The place is replaced in the other relations.
use Rattle.std.proofs.lemmas.Result.{err_from_is_err_and}
use Rattle.rx_relations.proofs.Places.{others_beyond, others_within}
use Rattle.rx_relations.proofs.linear.Solved.push_solved.Goals as goal

pub returns-in_err-others : goal.returns-in_err-others
returns-in_err-others c =
    let p = err_from_is_err_and c.from_residual-in_err-others.result
    c.from_residual-in_err-others.ensures.1 in
    rw (p.1, p.2) (λ h. others_beyond c.args.self.now c.args.poly c.args.place c.args.value
    c.in-Some.value _ c.in-Some.is c.as_slice.ensures (c.in_err-others.ensures h))

pub returns : goal.returns
returns c =
    others_within c.args.self.now c.push_with.new.self c.args.poly c.args.place c.args.value
    c.in-Some.value c.as_slice.result.now c.in_ok-others.others c.in-Some.is c.as_slice.ensures
    c.in_ok-others.ensures.0 c.in_ok-others.ensures.1 c.in_ok-push_with.ensures
