use Rattle.std.proofs.Common.{◌≡◌, ℤ, ◌<◌, ◌∙◌, sym, subst, arith}
use Rattle.std.specs.Prelude.{IfOk}
use Rattle.c_meaning.specs.Counted.{outcome_of}
use Rattle.c_meaning.specs.Runs.{Run}
use Rattle.c_machine.proofs.Endings.{whole-call}
use Rattle.c_machine.proofs.machine.Machine.call_outcome.Goals as goal

pub returns : goal.returns
returns c =
    let code = c.args.code.now in
    let some : 0 < c.args.rounds = omega arith in
    let same = whole-call code.program.now code.ops.items c.clear.new.self.items code.entries.items
    c.args.rounds c.args.f c.in-Some.entry c.args.args.now
    c.begin.new.self c.requires.functions (sym c.entry_of.ensures ∙ c.in-Some.is) some
    c.clear.ensures.items c.in_ok-begin.ensures in
    subst (λ (r : Run ℤ). IfOk c.outcome_of.result (λ o. o ≡ outcome_of r)) same
    (c.outcome_of.ensures _ c.run.ensures)
