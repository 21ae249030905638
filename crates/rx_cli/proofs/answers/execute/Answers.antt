-- What the words ask for is answered.
use Rattle.std.proofs.Common.{◌≡◌, None, Option, Some, inl, map, string_bytes, subst}
use Rattle.std.proofs.lemmas.Result.{IfOk-weaker}
use Rattle.rx_command.specs.Commands.{Command, Compare, Demo, Rules, Translate, command_of, comparison_view, functions_view, induction_view}
use Rattle.rx_io.specs.Outside.{Rose}
use Rattle.rx_cli.specs.Answers.{AnswersOrFails}
use Rattle.rx_cli.proofs.AnswerLemmas.{answers_usage}
use Rattle.rx_cli.proofs.Equals.{answered_different, answered_equal}
use Rattle.rx_cli.proofs.Asked.{command_allowed}
use Rattle.rx_cli.proofs.answers.execute.Goals as goal

pub execute_demo-requires : goal.execute_demo-requires
execute_demo-requires g c =
    let said : Some (Demo c.in-Some-Demo.pairs) ≡ command_of (map string_bytes c.args.words.now) =
    rw c.in-Some-Demo.field-0-is at (rw c.in-Some-Demo.is at c.in_ok-command_of.ensures.command)
    in
    command_allowed (map string_bytes c.args.words.now) (Demo c.in-Some-Demo.pairs) said

pub execute_comparison-requires-clause-pre : goal.execute_comparison-requires-clause-pre
execute_comparison-requires-clause-pre g c =
    let said : Some (Compare (comparison_view c.in-Some-Compare.comparison)) ≡
    command_of (map string_bytes c.args.words.now) =
    rw c.in-Some-Compare.field-0-is at (rw c.in-Some-Compare.is at
    c.in_ok-command_of.ensures.command) in
    (command_allowed (map string_bytes c.args.words.now)
    (Compare (comparison_view c.in-Some-Compare.comparison)) said).short

pub execute_comparison-requires-clause-depth : goal.execute_comparison-requires-clause-depth
execute_comparison-requires-clause-depth g c =
    let said : Some (Compare (comparison_view c.in-Some-Compare.comparison)) ≡
    command_of (map string_bytes c.args.words.now) =
    rw c.in-Some-Compare.field-0-is at (rw c.in-Some-Compare.is at
    c.in_ok-command_of.ensures.command) in
    (command_allowed (map string_bytes c.args.words.now)
    (Compare (comparison_view c.in-Some-Compare.comparison)) said).depth

pub returns-in-None-clause-answer : goal.returns-in-None-clause-answer
returns-in-None-clause-answer g c =
    let said : ◌≡◌ {A = Option Command} None (command_of (map string_bytes c.args.words.now)) =
    rw c.in-None.is at c.in_ok-command_of.ensures.command in
    answers_usage (g.F.Files.held c.args.files.now)
    (Rose (g.F.Files.faults c.args.files.now) (g.F.Files.faults c.args.files.now))
    (command_of (map string_bytes c.args.words.now)) said

pub returns-in-Some-Demo-clause-answer : goal.returns-in-Some-Demo-clause-answer
returns-in-Some-Demo-clause-answer g c =
    let said : Some (Demo c.in-Some-Demo.pairs) ≡ command_of (map string_bytes c.args.words.now) =
    rw c.in-Some-Demo.field-0-is at (rw c.in-Some-Demo.is at c.in_ok-command_of.ensures.command)
    in
    IfOk-weaker c.execute_demo.result _ _
    (λ answer to. subst (λ o. AnswersOrFails (g.F.Files.held c.args.files.now)
    (Rose (g.F.Files.faults c.args.files.now) (g.F.Files.faults c.args.files.now)) o answer)
    said (inl to))
    (c.execute_demo.ensures.answer (g.F.Files.held c.args.files.now))

pub returns-in-Some-Demo-clause-reach : goal.returns-in-Some-Demo-clause-reach
returns-in-Some-Demo-clause-reach g c = g.met.F.Files.reaches_same c.args.files.now

pub returns-in-Some-Demo-clause-sound : goal.returns-in-Some-Demo-clause-sound
returns-in-Some-Demo-clause-sound g c =
    let said : Some (Demo c.in-Some-Demo.pairs) ≡ command_of (map string_bytes c.args.words.now) =
    rw c.in-Some-Demo.field-0-is at (rw c.in-Some-Demo.is at c.in_ok-command_of.ensures.command)
    in
    IfOk-weaker c.execute_demo.result _ _
    (λ answer to. answered_equal (g.F.Files.held c.args.files.now)
    (map string_bytes c.args.words.now)
    (Rose (g.F.Files.faults c.args.files.now) (g.F.Files.faults c.args.files.now)) answer
    (subst (λ o. AnswersOrFails (g.F.Files.held c.args.files.now)
    (Rose (g.F.Files.faults c.args.files.now) (g.F.Files.faults c.args.files.now)) o answer)
    said (inl to)))
    (c.execute_demo.ensures.answer (g.F.Files.held c.args.files.now))

pub returns-in-Some-Compare-clause-sound : goal.returns-in-Some-Compare-clause-sound
returns-in-Some-Compare-clause-sound g c =
    let said : Some (Compare (comparison_view c.in-Some-Compare.comparison)) ≡
    command_of (map string_bytes c.args.words.now) =
    rw c.in-Some-Compare.field-0-is at (rw c.in-Some-Compare.is at
    c.in_ok-command_of.ensures.command) in
    IfOk-weaker c.execute_comparison.result _ _
    (λ answer answered. answered_equal (g.F.Files.held c.args.files.now)
    (map string_bytes c.args.words.now)
    (Rose (g.F.Files.faults c.args.files.now) (g.F.Files.faults c.execute_comparison.new.files))
    answer
    (subst (λ o. AnswersOrFails (g.F.Files.held c.args.files.now)
    (Rose (g.F.Files.faults c.args.files.now) (g.F.Files.faults c.execute_comparison.new.files)) o
    answer) said answered))
    c.execute_comparison.ensures.answer

pub returns-in-Some-Demo-clause-different : goal.returns-in-Some-Demo-clause-different
returns-in-Some-Demo-clause-different g c =
    let said : Some (Demo c.in-Some-Demo.pairs) ≡ command_of (map string_bytes c.args.words.now) =
    rw c.in-Some-Demo.field-0-is at (rw c.in-Some-Demo.is at c.in_ok-command_of.ensures.command)
    in
    IfOk-weaker c.execute_demo.result _ _
    (λ answer to. answered_different (g.F.Files.held c.args.files.now)
    (map string_bytes c.args.words.now)
    (Rose (g.F.Files.faults c.args.files.now) (g.F.Files.faults c.args.files.now)) answer
    (subst (λ o. AnswersOrFails (g.F.Files.held c.args.files.now)
    (Rose (g.F.Files.faults c.args.files.now) (g.F.Files.faults c.args.files.now)) o answer)
    said (inl to)))
    (c.execute_demo.ensures.answer (g.F.Files.held c.args.files.now))

pub returns-in-Some-Compare-clause-different : goal.returns-in-Some-Compare-clause-different
returns-in-Some-Compare-clause-different g c =
    let said : Some (Compare (comparison_view c.in-Some-Compare.comparison)) ≡
    command_of (map string_bytes c.args.words.now) =
    rw c.in-Some-Compare.field-0-is at (rw c.in-Some-Compare.is at
    c.in_ok-command_of.ensures.command) in
    IfOk-weaker c.execute_comparison.result _ _
    (λ answer answered. answered_different (g.F.Files.held c.args.files.now)
    (map string_bytes c.args.words.now)
    (Rose (g.F.Files.faults c.args.files.now) (g.F.Files.faults c.execute_comparison.new.files))
    answer
    (subst (λ o. AnswersOrFails (g.F.Files.held c.args.files.now)
    (Rose (g.F.Files.faults c.args.files.now) (g.F.Files.faults c.execute_comparison.new.files)) o
    answer) said answered))
    c.execute_comparison.ensures.answer

pub execute_rules-requires : goal.execute_rules-requires
execute_rules-requires g c =
    let said : Some (Rules (induction_view c.in-Some-Rules.task)) ≡
    command_of (map string_bytes c.args.words.now) =
    rw c.in-Some-Rules.field-0-is at (rw c.in-Some-Rules.is at
    c.in_ok-command_of.ensures.command) in
    command_allowed (map string_bytes c.args.words.now)
    (Rules (induction_view c.in-Some-Rules.task)) said

pub returns-in-Some-Rules-clause-sound : goal.returns-in-Some-Rules-clause-sound
returns-in-Some-Rules-clause-sound g c =
    let said : Some (Rules (induction_view c.in-Some-Rules.task)) ≡
    command_of (map string_bytes c.args.words.now) =
    rw c.in-Some-Rules.field-0-is at (rw c.in-Some-Rules.is at
    c.in_ok-command_of.ensures.command) in
    IfOk-weaker c.execute_rules.result _ _
    (λ answer answered. answered_equal (g.F.Files.held c.args.files.now)
    (map string_bytes c.args.words.now)
    (Rose (g.F.Files.faults c.args.files.now) (g.F.Files.faults c.execute_rules.new.files))
    answer
    (subst (λ o. AnswersOrFails (g.F.Files.held c.args.files.now)
    (Rose (g.F.Files.faults c.args.files.now) (g.F.Files.faults c.execute_rules.new.files)) o
    answer) said answered))
    c.execute_rules.ensures.answer

pub returns-in-Some-Rules-clause-different : goal.returns-in-Some-Rules-clause-different
returns-in-Some-Rules-clause-different g c =
    let said : Some (Rules (induction_view c.in-Some-Rules.task)) ≡
    command_of (map string_bytes c.args.words.now) =
    rw c.in-Some-Rules.field-0-is at (rw c.in-Some-Rules.is at
    c.in_ok-command_of.ensures.command) in
    IfOk-weaker c.execute_rules.result _ _
    (λ answer answered. answered_different (g.F.Files.held c.args.files.now)
    (map string_bytes c.args.words.now)
    (Rose (g.F.Files.faults c.args.files.now) (g.F.Files.faults c.execute_rules.new.files))
    answer
    (subst (λ o. AnswersOrFails (g.F.Files.held c.args.files.now)
    (Rose (g.F.Files.faults c.args.files.now) (g.F.Files.faults c.execute_rules.new.files)) o
    answer) said answered))
    c.execute_rules.ensures.answer

pub execute_translate-requires : goal.execute_translate-requires
execute_translate-requires g c =
    let said : Some (Translate (functions_view c.in-Some-Translate.functions)) ≡
    command_of (map string_bytes c.args.words.now) =
    rw c.in-Some-Translate.field-0-is at (rw c.in-Some-Translate.is at
    c.in_ok-command_of.ensures.command) in
    command_allowed (map string_bytes c.args.words.now)
    (Translate (functions_view c.in-Some-Translate.functions)) said

pub returns-in-Some-Translate-clause-sound : goal.returns-in-Some-Translate-clause-sound
returns-in-Some-Translate-clause-sound g c =
    let said : Some (Translate (functions_view c.in-Some-Translate.functions)) ≡
    command_of (map string_bytes c.args.words.now) =
    rw c.in-Some-Translate.field-0-is at (rw c.in-Some-Translate.is at
    c.in_ok-command_of.ensures.command) in
    IfOk-weaker c.execute_translate.result _ _
    (λ answer answered. answered_equal (g.F.Files.held c.args.files.now)
    (map string_bytes c.args.words.now)
    (Rose (g.F.Files.faults c.args.files.now) (g.F.Files.faults c.execute_translate.new.files))
    answer
    (subst (λ o. AnswersOrFails (g.F.Files.held c.args.files.now)
    (Rose (g.F.Files.faults c.args.files.now) (g.F.Files.faults c.execute_translate.new.files)) o
    answer) said answered))
    c.execute_translate.ensures.answer

pub returns-in-Some-Translate-clause-different : goal.returns-in-Some-Translate-clause-different
returns-in-Some-Translate-clause-different g c =
    let said : Some (Translate (functions_view c.in-Some-Translate.functions)) ≡
    command_of (map string_bytes c.args.words.now) =
    rw c.in-Some-Translate.field-0-is at (rw c.in-Some-Translate.is at
    c.in_ok-command_of.ensures.command) in
    IfOk-weaker c.execute_translate.result _ _
    (λ answer answered. answered_different (g.F.Files.held c.args.files.now)
    (map string_bytes c.args.words.now)
    (Rose (g.F.Files.faults c.args.files.now) (g.F.Files.faults c.execute_translate.new.files))
    answer
    (subst (λ o. AnswersOrFails (g.F.Files.held c.args.files.now)
    (Rose (g.F.Files.faults c.args.files.now) (g.F.Files.faults c.execute_translate.new.files)) o
    answer) said answered))
    c.execute_translate.ensures.answer
