use Rattle.std.proofs.Common.{◌≡◌, ℤ, List, ◌∙◌, ap, sym, take, arith, rules}
use Rattle.std.proofs.lemmas.Grind.{common_steps}
use mir.Syntax.{w128}
use mir.Val.{of_z, to_z}
use Rattle.c_meaning.specs.Counted.{counted}
use Rattle.c_code.specs.Flat.{Back, Rest, rests}
use Rattle.c_machine.specs.Machines.{back_to}
use Rattle.c_machine.proofs.RunningCode.{steps-same}
use Rattle.c_machine.proofs.machine.Machine.give.Goals as goal

pub returns-in-On-clause-steps : goal.returns-in-On-clause-steps
returns-in-On-clause-steps c program ops here left =
    let callers = c.args.self.now.callers.items in
    let back : Back = back_to (counted program) ops callers in
    let rs : List Rest = rests (counted program) back (take here ops) in
    let plain : to_z w128 (of_z w128 c.args.x) ≡ c.args.x =
    first_of (search rules, grind (arith, common_steps)) in
    let delivered = rw c.in-On.is at (c.in_ok-next.ensures rs back left) in
    rw plain at delivered

pub returns-in-Back-clause-steps : goal.returns-in-Back-clause-steps
returns-in-Back-clause-steps c program ops here left =
    let callers = c.args.self.now.callers.items in
    let back : Back = back_to (counted program) ops callers in
    let rs : List Rest = rests (counted program) back (take here ops) in
    let plain : to_z w128 (of_z w128 c.args.x) ≡ c.args.x =
    first_of (search rules, grind (arith, common_steps)) in
    let back_plain : to_z w128 (of_z w128 c.in-Back.x) ≡ c.in-Back.x =
    first_of (search rules, grind (arith, common_steps)) in
    let delivered = rw c.in-Back.is at (c.in_ok-next.ensures rs back left) in
    let shown = rw plain at delivered in
    let given = ap (λ (z : ℤ). back z c.deliver.new.store left) (sym back_plain) in
    steps-same here program ops _ _ c.go_back.result c.go_back.new.self.callers.items
    c.go_back.new.self.store left (shown ∙ given) (c.go_back.ensures.steps program ops left here)
