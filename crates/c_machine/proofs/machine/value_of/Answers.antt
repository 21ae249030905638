use Rattle.std.proofs.Common.{◌≡◌, arith, rules}
use Rattle.std.proofs.lemmas.Grind.{common_steps}
use mir.Syntax.{w128}
use mir.Val.{of_z, to_z}
use Rattle.c_meaning.specs.CountedExpressions.{apply}
use Rattle.c_code.specs.Flat.{inner_run, read}
use Rattle.c_machine.proofs.RunningCode.{gives-then}
use Rattle.c_machine.proofs.machine.value_of.Goals as goal

pub returns-in_ok-y-in-Right-clause-number : goal.returns-in_ok-y-in-Right-clause-number
returns-in_ok-y-in-Right-clause-number c =
    let r = c.in-Right in
    let k = c.args.store.now in
    let x = c.read-x-in-Right.result in
    let y = c.in_ok-y-in-Right.y in
    let first : to_z w128 (of_z w128 x) ≡ x =
    first_of (search rules, grind (arith, common_steps)) in
    let second : to_z w128 (of_z w128 y) ≡ y =
    first_of (search rules, grind (arith, common_steps)) in
    let plain = rw (first, second) at c.apply_binary.ensures in
    let left = c.read-x-in-Right.ensures.value in
    let given = rw left at plain in
    let is = r.is in
    rw is (gives-then (inner_run r.inner k) (apply r.op (read r.a k)) y
    c.apply_binary.result c.in_ok-y-in-Right.ensures given)
