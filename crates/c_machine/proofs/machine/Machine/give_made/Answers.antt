use Rattle.std.proofs.Common.{◌≡◌, List, take, refl, arith, rules}
use Rattle.std.proofs.lemmas.Grind.{common_steps}
use mir.Syntax.{w128}
use mir.Val.{of_z, to_z}
use Rattle.c_meaning.specs.Counted.{counted}
use Rattle.c_code.specs.Flat.{Back, Rest, rests}
use Rattle.c_machine.specs.Machines.{back_to}
use Rattle.c_machine.proofs.RunningCode.{made-to, steps-same}
use Rattle.c_machine.proofs.machine.Machine.give_made.Goals as goal

pub returns-clause-steps : goal.returns-clause-steps
returns-clause-steps c program ops here left run given =
    let k = c.args.self.now.store in
    let back : Back = back_to (counted program) ops c.args.self.now.callers.items in
    let rs : List Rest = rests (counted program) back (take here ops) in
    let x = c.in_ok-x.x in
    let plain : to_z w128 (of_z w128 x) ≡ x =
    first_of (search rules, grind (arith, common_steps)) in
    let number = rw c.in_ok-x.was at given in
    let moved = made-to rs back c.args.destination.now run x (to_z w128 (of_z w128 x)) k k left
    number
    plain refl in
    steps-same here program ops _ _ c.give.result c.give.new.self.callers.items
    c.give.new.self.store left moved (c.give.ensures.steps program ops here left)
