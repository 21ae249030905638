use Rattle.std.proofs.Common.{◌≡◌, subst}
use Rattle.std.specs.Prelude.{IfOk}
use Rattle.std.specs.Option.{option_copied}
use Rattle.c_meaning.specs.declared.outcomes.Outcome.{Outcome}
use Rattle.c_machine.proofs.Endings.{whole-expr}
use Rattle.c_machine.proofs.machine.Machine.whole_outcome.Goals as goal

pub returns : goal.returns
returns c =
    let code = c.args.code.now in
    let same = whole-expr code.program.now code.ops.items c.clear.new.self.items
    (option_copied code.whole) code.start c.in-Some.start c.args.rounds c.args.state.now
    c.begin.new.self c.requires.whole c.in-Some.is c.clear.ensures.items c.in_ok-begin.ensures in
    subst (λ (q : Outcome). IfOk c.outcome_of.result (λ o. o ≡ q)) same
    (c.outcome_of.ensures _ c.run.ensures)
