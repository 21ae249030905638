use Rattle.std.proofs.Common.{◌≡◌, length, ◌-◌, ◌∙◌, ℕ, suc, Some, List, take, arith, ap, sym, rules}
use Rattle.std.specs.Prelude.{slice_get}
use Rattle.std.proofs.Math.ListN.{length-append}
use Rattle.std.proofs.lemmas.Option.{slice_get_within}
use Rattle.c_meaning.specs.Counted.{counted}
use Rattle.c_code.specs.Flat.{Back, Rest, op_to, rests, code_run}
use Rattle.c_machine.specs.Machines.{back_to, machine_run}
use Rattle.c_code.specs.Stores.{Kept, called}
use Rattle.c_code.specs.declared.code.Op.TheVariants as op
use Rattle.c_machine.specs.declared.machine.Caller.{Caller}
use Rattle.c_machine.proofs.RunningCode.{back-pushed, call-begun, caller-found, function-found}
use Rattle.c_machine.proofs.machine.Machine.invoke.Goals as goal

pub returns-clause-steps : goal.returns-clause-steps
returns-clause-steps c =
    let program = c.args.code.now.program.now in
    let ops = c.args.code.now.ops.items in
    let k : Kept = c.args.self.now.store in
    let f = c.args.f in
    let entry = c.in-Some.entry in
    let callers = c.args.self.now.callers.items in
    let back : Back = back_to (counted program) ops callers in
    let rs : List Rest = rests (counted program) back (take c.args.at ops) in
    let there : slice_get c.args.code.now.entries.items f ≡ Some entry = sym c.entry_of.ensures ∙
    c.in-Some.is in
    let below = slice_get_within c.args.code.now.entries.items f entry there in
    let count = c.requires.functions.count in
    let g = function-found program.functions f (omega arith) in
    let waits = c.lower-next.result in
    let found = caller-found (counted program) back ops c.args.at c.args.next waits
    c.lower-next.ensures.next
    (λ above. c.lower-next.ensures.end above ∙ first_of (search rules, cc (c.len.ensures))) in
    let caller : Caller = record { next = waits; base = c.in_ok-base.base } in
    let backs = back-pushed (counted program) ops callers c.push.new.self.items caller
    c.in_ok-push.ensures.items in
    let same : c.args.left ≡ suc (c.args.left - 1) = omega arith in
    ap (λ (n : ℕ). op_to (counted program) back rs (op.Call f c.args.count c.args.next) k n) same
    ∙ (call-begun program back ops c.args.at f c.args.count c.args.next waits c.in_ok-base.base k
    found c.in_ok-base.ensures.base entry (c.args.left - 1) g.0 g.1
    (c.requires.functions.each f entry g.0 g.1 there)
    ∙ (ap (λ (b : Back). code_run (counted program) b ops entry (called k c.args.count)
    (c.args.left - 1)) (sym backs)
    ∙ ap (λ (j : Kept). machine_run program ops c.push.new.self.items entry j (c.args.left - 1))
    (sym c.in_ok-base.ensures.kept)))

pub returns-clause-falls : goal.returns-clause-falls
returns-clause-falls c =
    let f = c.args.f in
    let entry = c.in-Some.entry in
    let there : slice_get c.args.code.now.entries.items f ≡ Some entry = sym c.entry_of.ensures ∙
    c.in-Some.is in
    let below = slice_get_within c.args.code.now.entries.items f entry there in
    let count = c.requires.functions.count in
    let g = function-found c.args.code.now.program.now.functions f (omega arith) in
    let more = ap length c.in_ok-push.ensures.items ∙
    length-append c.args.self.now.callers.items _ in
    (omega arith, omega arith, (c.requires.functions.each f entry g.0 g.1 there).within)
