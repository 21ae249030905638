use Rattle.std.proofs.Common.{◌≡◌, ℤ, List, ◌<◌, ◌+◌, length, drop, option_copied, sym, subst, ap, ◌∙◌, arith}
use Rattle.c_refute.specs.Points.{points, arity, finding_at, IsFirstDifference}
use Rattle.c_refute.specs.Walk.{lowest, stepped}
use Rattle.c_refute.proofs.Walked.{walked_none, walked_all, not_different}
use Rattle.c_refute.proofs.PointLists.{Leads, points_lead}
use Rattle.c_refute.proofs.Comparing.{written_back, counted_point, next_point, different_point, few_points, many_points, number_is, no_memory, not_too_many, too_many}
use Rattle.c_refute.proofs.comparison.compare.Goals as goal

pub returns-in_default-clause-too_many : goal.returns-in_default-clause-too_many
returns-in_default-clause-too_many c =
    let params = c.arity_of-params.result in
    let count = arity c.args.program.now c.args.f in
    too_many count params (length (points c.args.side count)) 1000000 c.arity_of-params.ensures
    (many_points c.args.side count params 1000000 c.arity_of-params.ensures c.in_default.ensures)

pub returns-in_err-code-clause-too_many : goal.returns-in_err-code-clause-too_many
returns-in_err-code-clause-too_many c =
    let count = arity c.args.program.now c.args.f in
    not_too_many c.from_residual.result (no_memory c.from_residual.result c.from_residual.ensures.1)
    count (length (points c.args.side count)) 1000000
    (few_points c.args.side count c.arity_of-params.result 1000000 c.arity_of-params.ensures
    c.in-Some.ensures.0)

pub returns-in_err-point-clause-too_many : goal.returns-in_err-point-clause-too_many
returns-in_err-point-clause-too_many c =
    let r = c.from_residual-in_err-point in
    let count = arity c.args.program.now c.args.f in
    not_too_many r.result (no_memory r.result r.ensures.1) count (length (points c.args.side count))
    1000000
    (few_points c.args.side count c.arity_of-params.result 1000000 c.arity_of-params.ensures
    c.in-Some.ensures.0)

pub loop-init : goal.loop-init
loop-init c =
    let count = arity c.args.program.now c.args.f in
    let first : lowest c.args.side count ≡ c.in_ok-point.point.items =
    ap (lowest c.args.side) (sym c.arity_of-params.ensures) ∙ sym c.in_ok-point.ensures in
    let P : List ℤ → Type 0 = λ p. Leads c.args.side p (points c.args.side count) in
    record {
      walked =
          walked_none (finding_at c.args.program.now c.args.f c.args.g (option_copied c.args.pre)
          c.args.rounds) (points c.args.side count);
      leads = λ some. subst P first (points_lead c.args.side count);
    }

pub returns-in_err-found-clause-too_many : goal.returns-in_err-found-clause-too_many
returns-in_err-found-clause-too_many c =
    let r = c.from_residual-in_err-found in
    let count = arity c.args.program.now c.args.f in
    not_too_many r.result (no_memory r.result r.ensures.1) count (length (points c.args.side count))
    1000000
    (few_points c.args.side count c.arity_of-params.result 1000000 c.arity_of-params.ensures
    c.in-Some.ensures.0)

pub returns-in-Different-clause-compared : goal.returns-in-Different-clause-compared
returns-in-Different-clause-compared c =
    let count = arity c.args.program.now c.args.f in
    let all = points c.args.side count in
    let found = finding_at c.args.program.now c.args.f c.args.g (option_copied c.args.pre)
    c.args.rounds in
    let number = number_is c.args.side count c.arity_of-params.result c.in-Some.number
    c.arity_of-params.ensures c.in-Some.ensures.1 in
    let within : c.loop.counter < length all = omega (arith, number) in
    let program = c.in_ok-code.ensures.program in
    let whole = c.in_ok-code.ensures.whole in
    let there = rw (program, whole) at c.in_ok-found.ensures in
    let P : List ℤ → Type 0 = λ p. IsFirstDifference found all p c.in-Different.first
    c.in-Different.second in
    subst P (sym c.from_vec-args.ensures) (different_point c.args.side found all c.loop.counter
    c.loop.tally.alike c.loop.tally.undecided c.loop.point.items within
    c.loop.invariant.walked (c.loop.invariant.leads within) c.in_ok-found.found c.in-Different.first
    c.in-Different.second
    (there ∙ ap found c.as_slice.ensures.value) c.in-Different.is)

pub returns-in-Different-clause-too_many : goal.returns-in-Different-clause-too_many
returns-in-Different-clause-too_many c =
    let count = arity c.args.program.now c.args.f in
    not_too_many _ tt count (length (points c.args.side count)) 1000000
    (few_points c.args.side count c.arity_of-params.result 1000000 c.arity_of-params.ensures
    c.in-Some.ensures.0)

pub count-requires : goal.count-requires
count-requires c =
    let few = c.loop.invariant.walked.few in
    record { alike = omega (arith, few); undecided = omega (arith, few) }

pub loop-preserved : goal.loop-preserved
loop-preserved c =
    let count = arity c.args.program.now c.args.f in
    let all = points c.args.side count in
    let found = finding_at c.args.program.now c.args.f c.args.g (option_copied c.args.pre)
    c.args.rounds in
    let number = number_is c.args.side count c.arity_of-params.result c.in-Some.number
    c.arity_of-params.ensures c.in-Some.ensures.1 in
    let within : c.loop.counter < length all = omega (arith, number) in
    let as_long : length c.advance.new.point ≡ length c.loop.point.items = c.advance.auto.point ∙
    ap length c.as_mut_slice.ensures.value in
    let back = written_back c.advance.new.point c.loop.point.items c.loop.point.len as_long
    c.loop.point.ok.0 in
    let next : c.advance.new.point ≡ stepped c.args.side c.loop.point.items = c.advance.ensures ∙
    ap (stepped c.args.side) c.as_mut_slice.ensures.value in
    let program = c.in_ok-code.ensures.program in
    let whole = c.in_ok-code.ensures.whole in
    let there = rw (program, whole) at c.in_ok-found.ensures in
    let P : List ℤ → Type 0 = λ p. Leads c.args.side p (drop (c.loop.counter + 1) all) in
    record {
      walked =
          counted_point c.args.side found all c.loop.counter c.loop.tally.alike
          c.loop.tally.undecided c.loop.point.items within
          c.loop.invariant.walked (c.loop.invariant.leads within) c.in_ok-found.found
          (there ∙ ap found c.as_slice.ensures.value)
          (not_different c.in_ok-found.found c.in_default-found.not-Different)
          c.count.new.self.alike c.count.new.self.undecided c.count.ensures.alike
          c.count.ensures.undecided;
      leads =
          λ further. subst P (sym (back ∙ next))
          (next_point c.args.side found all c.loop.counter c.loop.tally.alike c.loop.tally.undecided
          c.loop.point.items within
          c.loop.invariant.walked (c.loop.invariant.leads within) further);
    }

pub returns-clause-compared : goal.returns-clause-compared
returns-clause-compared c =
    let count = arity c.args.program.now c.args.f in
    let number = number_is c.args.side count c.arity_of-params.result c.in-Some.number
    c.arity_of-params.ensures c.in-Some.ensures.1 in
    walked_all (finding_at c.args.program.now c.args.f c.args.g (option_copied c.args.pre)
    c.args.rounds) (points c.args.side count)
    c.loop.counter c.loop.tally.alike c.loop.tally.undecided (omega (arith, number))
    c.loop.invariant.walked

pub returns-clause-too_many : goal.returns-clause-too_many
returns-clause-too_many c =
    let count = arity c.args.program.now c.args.f in
    not_too_many _ tt count (length (points c.args.side count)) 1000000
    (few_points c.args.side count c.arity_of-params.result 1000000 c.arity_of-params.ensures
    c.in-Some.ensures.0)
