-- Each turn moves the first term of one sum, or of both; what is left still adds up to the whole.
use Rattle.std.proofs.Common.{◌≡◌, ◌∙◌, refl}
use Rattle.std.proofs.lemmas.Result.{err_from_is_err_and}
use Rattle.std.specs.Vec.Iter.{into_iter_items}
use Rattle.rx_poly.proofs.Moving.{begin, step, opened, after_last, after_left, after_right, after_both, no_sum, finished}
use Rattle.rx_poly.proofs.moved.moved_sum.Goals as goal

pub loop-first-init : goal.loop-first-init
loop-first-init c =
    let l : into_iter_items c.into_iter-ts.result ≡ c.args.left =
    c.into_iter-ts.ensures.rest ∙ c.into_vec.ensures in
    let r : into_iter_items c.into_iter-us.result ≡ c.args.right =
    c.into_iter-us.ensures.rest ∙ c.into_vec-2.ensures in
    rw c.in_ok-sum.ensures (begin c.args.left c.args.right
    (step c.into_iter-ts.result c.next-first.result c.next-first.new.self
    c.next-first.ensures.cases ∙ l)
    (step c.into_iter-us.result c.next-second.result c.next-second.new.self
    c.next-second.ensures.cases ∙ r) c.requires.left c.requires.right)

pub loop-first-preserved-in_default-second : goal.loop-first-preserved-in_default-second
loop-first-preserved-in_default-second c =
    after_last c.in_ok-push.ensures.ok (step c.loop-first.ts c.next-first-in_default-second.result
    c.next-first-in_default-second.new.self c.next-first-in_default-second.ensures.cases)
    (opened _ _ c.in-Some.is c.in_default-second.is c.loop-first.invariant)

pub loop-first-preserved-in-Less : goal.loop-first-preserved-in-Less
loop-first-preserved-in-Less c =
    after_left (opened _ _ c.in-Some.is c.in-Some-second.is c.loop-first.invariant)
    c.in-Less.ensures c.in_ok-push-in-Less.ensures.ok
    (step c.loop-first.ts c.next-first-in-Less.result c.next-first-in-Less.new.self
    c.next-first-in-Less.ensures.cases)

pub returns-in_err-push_added-in-Equal : goal.returns-in_err-push_added-in-Equal
returns-in_err-push_added-in-Equal c =
    let p = err_from_is_err_and c.from_residual-in_err-push_added-in-Equal.result
    c.from_residual-in_err-push_added-in-Equal.ensures.1 in
    record {
      forms = rw (p.1, p.2) (λ h. no_sum
          (opened _ _ c.in-Some.is c.in-Some-second.is c.loop-first.invariant) c.in-Equal.ensures
          (c.in_err-push_added-in-Equal.ensures.forms h));
    }

pub loop-first-preserved-in-Equal-1 : goal.loop-first-preserved-in-Equal-1
loop-first-preserved-in-Equal-1 c =
    after_both (opened _ _ c.in-Some.is c.in-Some-second.is c.loop-first.invariant)
    c.in-Equal.ensures c.in_ok-push_added-in-Equal.ensures.forms
    (step c.loop-first.ts c.next-first-in-Equal.result c.next-first-in-Equal.new.self
    c.next-first-in-Equal.ensures.cases)
    (step c.loop-first.us c.next-second-in-Equal.result c.next-second-in-Equal.new.self
    c.next-second-in-Equal.ensures.cases)

pub loop-first-preserved : goal.loop-first-preserved
loop-first-preserved c =
    after_right (opened _ _ c.in-Some.is c.in-Some-second.is c.loop-first.invariant)
    c.in-Greater.ensures c.in_ok-push-in-Greater.ensures.ok
    (step c.loop-first.us c.next-second-in-Greater.result c.next-second-in-Greater.new.self
    c.next-second-in-Greater.ensures.cases)

pub returns : goal.returns
returns c =
    record {
      forms = finished c.in_ok-push_rest.ensures
          (opened _ _ c.in_default.is refl c.loop-first.invariant);
    }
