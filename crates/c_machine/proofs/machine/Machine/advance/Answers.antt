use Rattle.std.proofs.Common.{◌≡◌, ◌∙◌, ℕ, ℤ, Some, length, take, refl, ap, sym, subst, arith, rules}
use Rattle.std.proofs.lemmas.Grind.{common_steps}
use mir.Syntax.{w64}
use mir.Val.{of_z, to_z}
use Rattle.c_meaning.specs.Counted.{counted}
use Rattle.c_code.specs.Flat.{Back, Rest, at, between, kept_after, made, rests, three, times}
use Rattle.c_machine.specs.Ends.{GivesNumber}
use Rattle.c_machine.specs.Machines.{back_to}
use Rattle.c_code.specs.Stores.{Kept}
use Rattle.c_ast.specs.declared.expr.BinOp.TheVariants.{Add}
use Rattle.c_code.specs.declared.code.Leaf.TheVariants as leaf
use Rattle.c_code.specs.declared.code.Operand.TheVariants.{Slot}
use Rattle.c_code.specs.declared.code.Destination.TheVariants as destination
use Rattle.c_code.specs.declared.code.Work.{Work}
use Rattle.c_code.specs.declared.code.Work.TheVariants.{Alone, Between, Left, Right}
use Rattle.c_code.specs.declared.code.Op.{Op}
use Rattle.c_code.specs.declared.code.Op.TheVariants as op
use Rattle.c_machine.proofs.RunningCode.{kept-same, op-found, op-steps, steps-same, turn-steps}
use Rattle.c_machine.proofs.machine.Machine.advance.Goals as goal

pub returns-in-Call-clause-steps : goal.returns-in-Call-clause-steps
returns-in-Call-clause-steps c =
    let program = c.args.code.now.program.now in
    let ops = c.args.code.now.ops.items in
    let left = c.args.left in
    let back : Back = back_to (counted program) ops c.args.self.now.callers.items in
    let found = c.requires.found ∙ ap (λ (o : Op). Some o) c.in-Call.is in
    let same = ap (λ (r : Rest). r c.args.self.now.store left)
    (op-found (counted program) back ops c.args.at
    (op.Call c.in-Call.f c.in-Call.count c.in-Call.next) found) in
    steps-same c.args.at program ops _ _ c.invoke.result c.invoke.new.self.callers.items
    c.invoke.new.self.store left same c.invoke.ensures.steps

pub returns-in-Turn-clause-steps : goal.returns-in-Turn-clause-steps
returns-in-Turn-clause-steps c =
    let program = c.args.code.now.program.now in
    let ops = c.args.code.now.ops.items in
    let found = c.requires.found ∙ ap (λ (o : Op). Some o) c.in-Turn.is in
    let right = c.requires.code.turns c.args.at c.in-Turn.field-0 c.in-Turn.field-1 c.in-Turn.begin
    (omega arith) found in
    turn-steps program ops c.args.self.now.callers.items c.args.at c.in-Turn.field-0
    c.in-Turn.field-1 c.in-Turn.begin right found
    c.begin_turn.result c.args.self.now.store c.args.left c.begin_turn.ensures.begun
    c.begin_turn.ensures.next c.begin_turn.ensures.none c.begin_turn.ensures.more

pub returns-in_ok-enter-in-Enter-clause-steps : goal.returns-in_ok-enter-in-Enter-clause-steps
returns-in_ok-enter-in-Enter-clause-steps c =
    let program = c.args.code.now.program.now in
    let ops = c.args.code.now.ops.items in
    let left = c.args.left in
    let callers = c.args.self.now.callers.items in
    let back : Back = back_to (counted program) ops callers in
    let next = c.in-Enter.next in
    let found = c.requires.found ∙ ap (λ (o : Op). Some o) c.in-Enter.is in
    let same = ap (λ (r : Rest). r c.args.self.now.store left)
    (op-found (counted program) back ops c.args.at (op.Enter next) found) in
    let moved = ap (λ (k : Kept). at (rests (counted program) back (take c.args.at ops)) next k
    left) (sym c.in_ok-enter-in-Enter.ensures) in
    same ∙ moved

pub returns-in-Leave-clause-steps : goal.returns-in-Leave-clause-steps
returns-in-Leave-clause-steps c =
    let program = c.args.code.now.program.now in
    let ops = c.args.code.now.ops.items in
    let left = c.args.left in
    let callers = c.args.self.now.callers.items in
    let back : Back = back_to (counted program) ops callers in
    let next = c.in-Leave.next in
    let found = c.requires.found ∙ ap (λ (o : Op). Some o) c.in-Leave.is in
    let same = ap (λ (r : Rest). r c.args.self.now.store left)
    (op-found (counted program) back ops c.args.at (op.Leave next) found) in
    let moved = ap (λ (k : Kept). at (rests (counted program) back (take c.args.at ops)) next k
    left) (sym c.leave.ensures) in
    same ∙ moved

pub returns-in-LessSlot-clause-steps : goal.returns-in-LessSlot-clause-steps
returns-in-LessSlot-clause-steps c =
    let program = c.args.code.now.program.now in
    let ops = c.args.code.now.ops.items in
    let left = c.args.left in
    let k = c.args.self.now.store in
    let back : Back = back_to (counted program) ops c.args.self.now.callers.items in
    let found = c.requires.found ∙ ap (λ (o : Op). Some o) c.in-LessSlot.is in
    let same = ap (λ (r : Rest). r k left) (op-found (counted program) back ops c.args.at
    (op.LessSlot c.in-LessSlot.a c.in-LessSlot.b c.in-LessSlot.less c.in-LessSlot.other) found) in
    same ∙ ap (λ (q : ℕ). at (rests (counted program) back (take c.args.at ops)) q k left)
    (sym c.compare-next.ensures)

pub returns-in-LessLiteral-clause-steps : goal.returns-in-LessLiteral-clause-steps
returns-in-LessLiteral-clause-steps c =
    let program = c.args.code.now.program.now in
    let ops = c.args.code.now.ops.items in
    let left = c.args.left in
    let k = c.args.self.now.store in
    let back : Back = back_to (counted program) ops c.args.self.now.callers.items in
    let found = c.requires.found ∙ ap (λ (o : Op). Some o) c.in-LessLiteral.is in
    let same = ap (λ (r : Rest). r k left) (op-found (counted program) back ops c.args.at
    (op.LessLiteral c.in-LessLiteral.a c.in-LessLiteral.c c.in-LessLiteral.less
    c.in-LessLiteral.other) found) in
    let plain : to_z w64 (of_z w64 c.in-LessLiteral.c) ≡ c.in-LessLiteral.c =
    first_of (search rules, grind (arith, common_steps)) in
    let compared = rw plain at c.compare-next-in-LessLiteral.ensures in
    same ∙ ap (λ (q : ℕ). at (rests (counted program) back (take c.args.at ops)) q k left)
    (sym compared)

pub returns-in-LiteralLess-clause-steps : goal.returns-in-LiteralLess-clause-steps
returns-in-LiteralLess-clause-steps c =
    let program = c.args.code.now.program.now in
    let ops = c.args.code.now.ops.items in
    let left = c.args.left in
    let k = c.args.self.now.store in
    let back : Back = back_to (counted program) ops c.args.self.now.callers.items in
    let found = c.requires.found ∙ ap (λ (o : Op). Some o) c.in-LiteralLess.is in
    let same = ap (λ (r : Rest). r k left) (op-found (counted program) back ops c.args.at
    (op.LiteralLess c.in-LiteralLess.c c.in-LiteralLess.a c.in-LiteralLess.less
    c.in-LiteralLess.other) found) in
    let plain : to_z w64 (of_z w64 c.in-LiteralLess.c) ≡ c.in-LiteralLess.c =
    first_of (search rules, grind (arith, common_steps)) in
    let compared = rw plain at c.compare-next-in-LiteralLess.ensures in
    same ∙ ap (λ (q : ℕ). at (rests (counted program) back (take c.args.at ops)) q k left)
    (sym compared)

pub returns-in-Do-clause-steps : goal.returns-in-Do-clause-steps
returns-in-Do-clause-steps c =
    let program = c.args.code.now.program.now in
    let ops = c.args.code.now.ops.items in
    let k = c.args.self.now.store in
    let work = c.in-Do.work in
    let back : Back = back_to (counted program) ops c.args.self.now.callers.items in
    let same = kept-same c.value_of-x.result (made work k)
    (rests (counted program) back (take c.args.at ops)) back (c.in-Do.destination)
    (kept_after work k)
    c.value_of-x.new.store c.args.left c.value_of-x.ensures.number c.value_of-x.ensures.kept in
    op-steps program ops c.args.self.now.callers.items c.args.at c.args.op.now _ k c.args.left _
    c.give_made.result c.give_made.new.self.callers.items c.give_made.new.self.store
    c.requires.found c.in-Do.is same
    (c.give_made.ensures.steps program ops c.args.at c.args.left (made work k)
    c.value_of-x.ensures.number)

pub returns-in-Test-clause-steps : goal.returns-in-Test-clause-steps
returns-in-Test-clause-steps c =
    let program = c.args.code.now.program.now in
    let ops = c.args.code.now.ops.items in
    let k = c.args.self.now.store in
    let work = Alone c.in-Test.inner in
    op-steps program ops c.args.self.now.callers.items c.args.at c.args.op.now _ k c.args.left _
    c.give_made-in-Test.result c.give_made-in-Test.new.self.callers.items
    c.give_made-in-Test.new.self.store
    c.requires.found c.in-Test.is refl
    (c.give_made-in-Test.ensures.steps program ops c.args.at c.args.left (made work k)
    c.inner_value-x.ensures)

pub returns-in-Set-clause-steps : goal.returns-in-Set-clause-steps
returns-in-Set-clause-steps c =
    let program = c.args.code.now.program.now in
    let ops = c.args.code.now.ops.items in
    let k = c.args.self.now.store in
    let work = Alone c.in-Set.inner in
    op-steps program ops c.args.self.now.callers.items c.args.at c.args.op.now _ k c.args.left _
    c.give_made-in-Set.result c.give_made-in-Set.new.self.callers.items
    c.give_made-in-Set.new.self.store
    c.requires.found c.in-Set.is refl
    (c.give_made-in-Set.ensures.steps program ops c.args.at c.args.left (made work k)
    c.inner_value-x-in-Set.ensures)

pub returns-in-Raise-clause-steps : goal.returns-in-Raise-clause-steps
returns-in-Raise-clause-steps c =
    let program = c.args.code.now.program.now in
    let ops = c.args.code.now.ops.items in
    let k = c.args.self.now.store in
    let literal : to_z w64 (of_z w64 c.in-Raise.c) ≡ c.in-Raise.c =
    first_of (search rules, grind (arith, common_steps)) in
    let work : ℤ → Work = λ z. between Add (leaf.Slot c.in-Raise.slot) (leaf.Constant z) in
    let given = subst (λ (z : ℤ). GivesNumber (made (work z) k) c.sum_value-x.result) literal
    c.sum_value-x.ensures in
    op-steps program ops c.args.self.now.callers.items c.args.at c.args.op.now _ k c.args.left _
    c.give_made-in-Raise.result c.give_made-in-Raise.new.self.callers.items
    c.give_made-in-Raise.new.self.store
    c.requires.found c.in-Raise.is refl
    (c.give_made-in-Raise.ensures.steps program ops c.args.at c.args.left
    (made (work c.in-Raise.c) k)
    given)

pub returns-in-Add-clause-steps : goal.returns-in-Add-clause-steps
returns-in-Add-clause-steps c =
    let program = c.args.code.now.program.now in
    let ops = c.args.code.now.ops.items in
    let k = c.args.self.now.store in
    let work = between Add (leaf.Slot c.in-Add.a) (leaf.Slot c.in-Add.b) in
    op-steps program ops c.args.self.now.callers.items c.args.at c.args.op.now _ k c.args.left _
    c.give_made-in-Add.result c.give_made-in-Add.new.self.callers.items
    c.give_made-in-Add.new.self.store
    c.requires.found c.in-Add.is refl
    (c.give_made-in-Add.ensures.steps program ops c.args.at c.args.left (made work k)
    c.sum_value-x-in-Add.ensures)

pub returns-in-AddThree-clause-steps : goal.returns-in-AddThree-clause-steps
returns-in-AddThree-clause-steps c =
    let program = c.args.code.now.program.now in
    let ops = c.args.code.now.ops.items in
    let k = c.args.self.now.store in
    let work = three c.in-AddThree.a c.in-AddThree.b c.in-AddThree.c in
    op-steps program ops c.args.self.now.callers.items c.args.at c.args.op.now _ k c.args.left _
    c.give_made-in-AddThree.result c.give_made-in-AddThree.new.self.callers.items
    c.give_made-in-AddThree.new.self.store
    c.requires.found c.in-AddThree.is refl
    (c.give_made-in-AddThree.ensures.steps program ops c.args.at c.args.left (made work k)
    c.three_value-x.ensures)

pub returns-in-AddTimes-clause-steps : goal.returns-in-AddTimes-clause-steps
returns-in-AddTimes-clause-steps c =
    let program = c.args.code.now.program.now in
    let ops = c.args.code.now.ops.items in
    let k = c.args.self.now.store in
    let literal : to_z w64 (of_z w64 c.in-AddTimes.c) ≡ c.in-AddTimes.c =
    first_of (search rules, grind (arith, common_steps)) in
    let work : ℤ → Work = λ z. times c.in-AddTimes.a z c.in-AddTimes.b in
    let given = subst (λ (z : ℤ). GivesNumber (made (work z) k) c.times_value-x.result) literal
    c.times_value-x.ensures in
    op-steps program ops c.args.self.now.callers.items c.args.at c.args.op.now _ k c.args.left _
    c.give_made-in-AddTimes.result c.give_made-in-AddTimes.new.self.callers.items
    c.give_made-in-AddTimes.new.self.store
    c.requires.found c.in-AddTimes.is refl
    (c.give_made-in-AddTimes.ensures.steps program ops c.args.at c.args.left
    (made (work c.in-AddTimes.c) k)
    given)

pub returns-in-SetLeft-clause-steps : goal.returns-in-SetLeft-clause-steps
returns-in-SetLeft-clause-steps c =
    let program = c.args.code.now.program.now in
    let ops = c.args.code.now.ops.items in
    let k = c.args.self.now.store in
    let work = Left c.in-SetLeft.op c.in-SetLeft.inner c.in-SetLeft.leaf in
    op-steps program ops c.args.self.now.callers.items c.args.at c.args.op.now _ k c.args.left _
    c.give_made-in-SetLeft.result c.give_made-in-SetLeft.new.self.callers.items
    c.give_made-in-SetLeft.new.self.store
    c.requires.found c.in-SetLeft.is refl
    (c.give_made-in-SetLeft.ensures.steps program ops c.args.at c.args.left (made work k)
    c.left_value-x.ensures)

pub returns-in-SetRight-clause-steps : goal.returns-in-SetRight-clause-steps
returns-in-SetRight-clause-steps c =
    let program = c.args.code.now.program.now in
    let ops = c.args.code.now.ops.items in
    let k = c.args.self.now.store in
    let work = Right c.in-SetRight.op (Slot c.in-SetRight.a) c.in-SetRight.inner in
    op-steps program ops c.args.self.now.callers.items c.args.at c.args.op.now _ k c.args.left _
    c.give_made-in-SetRight.result c.give_made-in-SetRight.new.self.callers.items
    c.give_made-in-SetRight.new.self.store
    c.requires.found c.in-SetRight.is refl
    (c.give_made-in-SetRight.ensures.steps program ops c.args.at c.args.left (made work k)
    c.right_value-x.ensures)

pub returns-in-PushInner-clause-steps : goal.returns-in-PushInner-clause-steps
returns-in-PushInner-clause-steps c =
    let program = c.args.code.now.program.now in
    let ops = c.args.code.now.ops.items in
    let k = c.args.self.now.store in
    let work = Alone c.in-PushInner.inner in
    op-steps program ops c.args.self.now.callers.items c.args.at c.args.op.now _ k c.args.left _
    c.give_made-in-PushInner.result c.give_made-in-PushInner.new.self.callers.items
    c.give_made-in-PushInner.new.self.store
    c.requires.found c.in-PushInner.is refl
    (c.give_made-in-PushInner.ensures.steps program ops c.args.at c.args.left (made work k)
    c.inner_value-x-in-PushInner.ensures)

pub returns-in-Give-clause-steps : goal.returns-in-Give-clause-steps
returns-in-Give-clause-steps c =
    let program = c.args.code.now.program.now in
    let ops = c.args.code.now.ops.items in
    let k = c.args.self.now.store in
    let work = Between c.in-Give.op c.in-Give.a c.in-Give.b in
    let back : Back = back_to (counted program) ops c.args.self.now.callers.items in
    let same = kept-same c.between_value-x.result (made work k)
    (rests (counted program) back (take c.args.at ops)) back (destination.Return c.in-Give.scopes)
    (kept_after work k)
    c.between_value-x.new.store c.args.left c.between_value-x.ensures.number
    c.between_value-x.ensures.kept in
    op-steps program ops c.args.self.now.callers.items c.args.at c.args.op.now _ k c.args.left _
    c.give_made-in-Give.result c.give_made-in-Give.new.self.callers.items
    c.give_made-in-Give.new.self.store
    c.requires.found c.in-Give.is same
    (c.give_made-in-Give.ensures.steps program ops c.args.at c.args.left (made work k)
    c.between_value-x.ensures.number)

pub returns-in-Do-clause-falls : goal.returns-in-Do-clause-falls
returns-in-Do-clause-falls c =
    c.give_made.ensures.falls (length c.args.code.now.ops.items) c.args.left

pub returns-in-Test-clause-falls : goal.returns-in-Test-clause-falls
returns-in-Test-clause-falls c =
    c.give_made-in-Test.ensures.falls (length c.args.code.now.ops.items) c.args.left

pub returns-in-Set-clause-falls : goal.returns-in-Set-clause-falls
returns-in-Set-clause-falls c =
    c.give_made-in-Set.ensures.falls (length c.args.code.now.ops.items) c.args.left

pub returns-in-Raise-clause-falls : goal.returns-in-Raise-clause-falls
returns-in-Raise-clause-falls c =
    c.give_made-in-Raise.ensures.falls (length c.args.code.now.ops.items) c.args.left

pub returns-in-Add-clause-falls : goal.returns-in-Add-clause-falls
returns-in-Add-clause-falls c =
    c.give_made-in-Add.ensures.falls (length c.args.code.now.ops.items) c.args.left

pub returns-in-AddThree-clause-falls : goal.returns-in-AddThree-clause-falls
returns-in-AddThree-clause-falls c =
    c.give_made-in-AddThree.ensures.falls (length c.args.code.now.ops.items) c.args.left

pub returns-in-AddTimes-clause-falls : goal.returns-in-AddTimes-clause-falls
returns-in-AddTimes-clause-falls c =
    c.give_made-in-AddTimes.ensures.falls (length c.args.code.now.ops.items) c.args.left

pub returns-in-SetLeft-clause-falls : goal.returns-in-SetLeft-clause-falls
returns-in-SetLeft-clause-falls c =
    c.give_made-in-SetLeft.ensures.falls (length c.args.code.now.ops.items) c.args.left

pub returns-in-SetRight-clause-falls : goal.returns-in-SetRight-clause-falls
returns-in-SetRight-clause-falls c =
    c.give_made-in-SetRight.ensures.falls (length c.args.code.now.ops.items) c.args.left

pub returns-in-PushInner-clause-falls : goal.returns-in-PushInner-clause-falls
returns-in-PushInner-clause-falls c =
    c.give_made-in-PushInner.ensures.falls (length c.args.code.now.ops.items) c.args.left

pub returns-in-Give-clause-falls : goal.returns-in-Give-clause-falls
returns-in-Give-clause-falls c =
    c.give_made-in-Give.ensures.falls (length c.args.code.now.ops.items) c.args.left
