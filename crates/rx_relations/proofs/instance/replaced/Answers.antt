-- One variable after the other.
use Rattle.std.proofs.Common.{◌∙◌, sym, arith}
use Rattle.std.proofs.lemmas.Result.{err_from_is_err_and}
use Rattle.rx_relations.proofs.Replacing.{after, beyond, no_pivot, none_left}
use Rattle.rx_relations.proofs.instance.replaced.Goals as goal

pub returns-in_default : goal.returns-in_default
returns-in_default c =
    no_pivot c.loop-left.left c.loop-left.rows.items _ (sym c.in_ok-found.ensures ∙ c.in_default.is)
    c.loop-left.invariant

pub returns-in_err-rows : goal.returns-in_err-rows
returns-in_err-rows c =
    let p = err_from_is_err_and c.from_residual-in_err-rows.result
    c.from_residual-in_err-rows.ensures.1 in
    rw (p.1, p.2) (λ h. beyond c.loop-left.left c.loop-left.rows.items _ c.in-Some.pivot
    c.loop-left-test.true (sym c.in_ok-found.ensures ∙ c.in-Some.is) c.loop-left.invariant
    (c.in_err-rows.ensures h))

pub loop-left-preserved : goal.loop-left-preserved
loop-left-preserved c =
    after c.loop-left.left c.loop-left.rows.items _ c.in-Some.pivot c.in_ok-rows.rows.items
    c.loop-left-test.true (sym c.in_ok-found.ensures ∙ c.in-Some.is) c.loop-left.invariant
    c.in_ok-rows.ensures.0 c.in_ok-rows.ensures.1

pub returns : goal.returns
returns c =
    none_left c.loop-left.left c.loop-left.rows.items _ (omega arith) c.loop-left.invariant
