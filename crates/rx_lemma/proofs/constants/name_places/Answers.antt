-- Place by place.
use Rattle.std.proofs.Common.{◌≡◌, ◌∙◌, ◌<◌, ◌-◌, sym, arith}
use Rattle.std.proofs.lemmas.Result.{err_from_is_err_and}
use Rattle.rx_lemma.specs.Naming.{naming_at}
use Rattle.rx_lemma.proofs.NamingLaws.{answer_applies, answer_fails, no_more_places, place_applies, place_beyond, place_fails}
use Rattle.rx_lemma.proofs.constants.name_places.Goals as goal

pub loop-place-preserved : goal.loop-place-preserved
loop-place-preserved c =
    let l = c.loop-place in
    let below : l.place < c.args.count = c.loop-place-test.true in
    let e = answer_applies (naming_at c.args.side l.place l.naming) c.in_ok-next.field-0
    c.in-Some.next c.in_ok-next.ensures c.in-Some.is in
    sym (place_applies c.args.side l.place c.args.count l.naming c.in-Some.next below e) ∙
    l.invariant

pub returns-in-None : goal.returns-in-None
returns-in-None c =
    let l = c.loop-place in
    let below : l.place < c.args.count = c.loop-place-test.true in
    let e = answer_fails (naming_at c.args.side l.place l.naming) c.in_ok-next.field-0
    c.in_ok-next.ensures c.in-None.is in
    sym l.invariant ∙ place_fails c.args.side l.place c.args.count l.naming below e

pub returns-in_err-next : goal.returns-in_err-next
returns-in_err-next c =
    let l = c.loop-place in
    let below : l.place < c.args.count = c.loop-place-test.true in
    let p = err_from_is_err_and c.from_residual.result c.from_residual.ensures.1 in
    rw (p.1, p.2) (λ h. sym l.invariant ∙ place_beyond c.args.side l.place c.args.count l.naming
    below (c.in_err-next.ensures h))

pub returns : goal.returns
returns c =
    let l = c.loop-place in
    let done : c.args.count - l.place ≡ 0 = omega arith in
    sym l.invariant ∙ no_more_places c.args.side l.place c.args.count l.naming done
