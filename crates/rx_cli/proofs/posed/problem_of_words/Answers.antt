-- The functions that the words compare, or the rule text that they name.
use Rattle.std.proofs.Common.{◌≡◌, List, None, Option, Some, map, string_bytes, subst, sym, true, ℕ}
use Rattle.std.proofs.lemmas.Result.{IfOk-weaker}
use Rattle.rx_command.specs.Commands.{Command, Compare, Functions, Rules, command_of, comparison_view, induction_view, is_short}
use Rattle.rx_io.specs.Outside.{Rose}
use Rattle.rx_cli.specs.Posed.{Poses}
use Rattle.rx_cli.specs.Problems.{asked, posed}
use Rattle.rx_cli.specs.Steps.{PosesIn}
use Rattle.rx_cli.proofs.Asked.{command_allowed}
use Rattle.rx_cli.proofs.PosedLemmas.{poses_compared, poses_rules}
use Rattle.rx_cli.proofs.posed.problem_of_words.Goals as goal

pub problem_of-requires : goal.problem_of-requires
problem_of-requires g c =
    let said : Some (Compare (comparison_view c.in-Some-Compare.comparison)) ≡
    command_of (map string_bytes c.args.words.now) =
    rw c.in-Some-Compare.field-0-is at (rw c.in-Some-Compare.is at
    c.in_ok-comparison.ensures.command) in
    subst (λ (f : Functions). is_short f.precondition ≡ true) (sym c.functions_of.ensures)
    (command_allowed (map string_bytes c.args.words.now)
    (Compare (comparison_view c.in-Some-Compare.comparison)) said).short

pub returns-in-Some-Compare-clause-poses : goal.returns-in-Some-Compare-clause-poses
returns-in-Some-Compare-clause-poses g c =
    let held = g.F.Files.held c.args.files.now in
    let fault = Rose (g.F.Files.faults c.args.files.now) (g.F.Files.faults c.problem_of.new.files) in
    let said : Some (Compare (comparison_view c.in-Some-Compare.comparison)) ≡
    command_of (map string_bytes c.args.words.now) =
    rw c.in-Some-Compare.field-0-is at (rw c.in-Some-Compare.is at
    c.in_ok-comparison.ensures.command) in
    IfOk-weaker c.problem_of.result _ _
    (λ problem poses. subst (λ (o : Option Command). Poses held fault o problem) said
    (poses_compared held fault (comparison_view c.in-Some-Compare.comparison) problem
    (subst (λ (f : Functions). PosesIn held fault f.file (asked f) problem)
    c.functions_of.ensures poses)))
    c.problem_of.ensures.poses

pub returns-in-Some-Rules-clause-poses : goal.returns-in-Some-Rules-clause-poses
returns-in-Some-Rules-clause-poses g c =
    let held = g.F.Files.held c.args.files.now in
    let fault = Rose (g.F.Files.faults c.args.files.now)
    (g.F.Files.faults c.problem_of_rules.new.files) in
    let said : Some (Rules (induction_view c.in-Some-Rules.task)) ≡
    command_of (map string_bytes c.args.words.now) =
    rw c.in-Some-Rules.field-0-is at (rw c.in-Some-Rules.is at
    c.in_ok-comparison.ensures.command) in
    IfOk-weaker c.problem_of_rules.result _ _
    (λ problem poses. subst (λ (o : Option Command). Poses held fault o problem) said
    (poses_rules held fault (induction_view c.in-Some-Rules.task) problem
    (subst (λ (file : List ℕ). PosesIn held fault file posed problem)
    c.rule_file.ensures poses)))
    c.problem_of_rules.ensures.poses

pub returns-in-Some-Demo-clause-reach : goal.returns-in-Some-Demo-clause-reach
returns-in-Some-Demo-clause-reach g c = g.met.F.Files.reaches_same c.args.files.now
