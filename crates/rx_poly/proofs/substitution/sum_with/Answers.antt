-- Each turn adds one term or a run of terms; what passes the limits decides.
use Rattle.std.proofs.Common.{◌+◌, ◌≤◌, ◌∙◌, ap, subst, sym, sum_by, length, ℤ}
use Rattle.std.proofs.lemmas.Bool.{leb-true}
use Rattle.std.proofs.lemmas.List.Sums.{prefix_len-le-length}
use Rattle.std.proofs.lemmas.Result.{err_from_is_err_and}
use Rattle.rx_poly.specs.Limits.{body_size, mono_size}
use Rattle.rx_poly.specs.Replacements.{replacements, mono_stays}
use Rattle.rx_poly.specs.Variables.{mono_variables}
use Rattle.rx_poly.specs.declared.body.Mono.{Mono}
use Rattle.rx_poly.specs.declared.body.Body.{out-Body}
use Rattle.rx_poly.proofs.Runs.{after_first, after_run, begin, no_first, no_run, run_prefix, run_sum, Run}
use Rattle.rx_poly.proofs.Staying.{front_stays}
use Rattle.rx_poly.proofs.substitution.sum_with.Goals as goal

pub loop-term-init : goal.loop-term-init
loop-term-init c =
    begin (replacements c.args.with) c.args.poly.now c.body.ensures.normal
    (c.as_slice-rest.ensures ∙ ap (λ b. (out-Body b).terms) c.body.ensures.body)
    c.in_ok-start.ensures

pub split_at-requires : goal.split_at-requires
split_at-requires c =
    subst (λ n. n ≤ length c.loop-term.rest.now) (sym c.count_staying.ensures)
    (prefix_len-le-length (λ (t : Mono × ℤ). mono_stays (replacements c.args.with) t.0)
    c.loop-term.rest.now)

pub plus_terms-requires-clause-sum : goal.plus_terms-requires-clause-sum
plus_terms-requires-clause-sum c =
    run_sum c.split_at.result.0.now (run_prefix c.split_at.result.0.now c.split_at.result.1.now
    (subst Run c.split_at.ensures.by_index.0 c.loop-term.invariant.run))

pub returns-in_err-sum : goal.returns-in_err-sum
returns-in_err-sum c =
    let p = err_from_is_err_and c.from_residual-in_err-sum.result
    c.from_residual-in_err-sum.ensures.1 in
    let st = front_stays (replacements c.args.with) (λ (t : Mono × ℤ). mono_variables t.0)
    c.loop-term.rest.now c.split_at.ensures.front c.count_staying.ensures in
    rw (p.1, p.2) (record {
      forms = λ h. no_run (replacements c.args.with) c.split_at.result.0.now
          c.split_at.result.1.now c.split_at.ensures.by_index.0 c.loop-term.invariant st
          c.body-then-not-is_empty.ensures.normal (c.in_err-sum.ensures.forms h);
    })

pub loop-term-preserved-then-fit_together : goal.loop-term-preserved-then-fit_together
loop-term-preserved-then-fit_together c =
    let st = front_stays (replacements c.args.with) (λ (t : Mono × ℤ). mono_variables t.0)
    c.loop-term.rest.now c.split_at.ensures.front c.count_staying.ensures in
    after_run (replacements c.args.with) c.split_at.result.0.now
    c.split_at.result.1.now c.split_at.ensures.by_index.0 c.loop-term.invariant st
    c.body-then-not-is_empty.ensures.normal
    (subst (λ b. body_size b + sum_by (λ (t : Mono × ℤ). mono_size t.0) c.split_at.result.0.now ≤
    4096) c.body-then-not-is_empty.ensures.body
    (leb-true _ 4096 (sym c.fit_together.ensures ∙ c.if-fit_together.true)))
    c.in_ok-sum.ensures.forms.0 c.in_ok-sum.ensures.forms.1

pub returns-in_err-sum-2 : goal.returns-in_err-sum-2
returns-in_err-sum-2 c =
    let p = err_from_is_err_and c.from_residual-in_err-sum-2.result
    c.from_residual-in_err-sum-2.ensures.1 in
    rw (p.1, p.2) (record {
      forms = λ h. no_first (replacements c.args.with) c.in-Some.ensures.cases.0
          c.loop-term.invariant (c.in_err-sum-2.ensures.forms h);
    })

pub loop-term-preserved : goal.loop-term-preserved
loop-term-preserved c =
    after_first (replacements c.args.with) c.in-Some.ensures.cases.0 c.loop-term.invariant
    c.in_ok-sum-2.ensures.forms.0 c.in_ok-sum-2.ensures.forms.1
