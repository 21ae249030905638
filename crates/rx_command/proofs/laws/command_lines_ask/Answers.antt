use Rattle.std.proofs.Common.{refl}
use Rattle.clap.proofs.OnLiterals.{clap_on_literals}
use Rattle.rx_command.proofs.laws.command_lines_ask.Goals as goal

pub returns-clause-usual : goal.returns-clause-usual
unfolding clap_on_literals
returns-clause-usual c = refl

pub returns-clause-given : goal.returns-clause-given
unfolding clap_on_literals
returns-clause-given c = refl

pub returns-clause-log : goal.returns-clause-log
unfolding clap_on_literals
returns-clause-log c = refl

pub returns-clause-no_log : goal.returns-clause-no_log
unfolding clap_on_literals
returns-clause-no_log c = refl

pub returns-clause-too_deep : goal.returns-clause-too_deep
unfolding clap_on_literals
returns-clause-too_deep c = refl

pub returns-clause-zero : goal.returns-clause-zero
unfolding clap_on_literals
returns-clause-zero c = refl

pub returns-clause-beside : goal.returns-clause-beside
unfolding clap_on_literals
returns-clause-beside c = refl

pub returns-clause-nothing : goal.returns-clause-nothing
unfolding clap_on_literals
returns-clause-nothing c = refl

pub returns-clause-demo : goal.returns-clause-demo
unfolding clap_on_literals
returns-clause-demo c = refl

pub returns-clause-no_examples : goal.returns-clause-no_examples
unfolding clap_on_literals
returns-clause-no_examples c = refl

pub returns-clause-too_many : goal.returns-clause-too_many
unfolding clap_on_literals
returns-clause-too_many c = refl

pub returns-clause-deep_demo : goal.returns-clause-deep_demo
unfolding clap_on_literals
returns-clause-deep_demo c = refl

pub returns-clause-refute : goal.returns-clause-refute
unfolding clap_on_literals
returns-clause-refute c = refl

pub returns-clause-boxed : goal.returns-clause-boxed
unfolding clap_on_literals
returns-clause-boxed c = refl

pub returns-clause-deep_runs : goal.returns-clause-deep_runs
unfolding clap_on_literals
returns-clause-deep_runs c = refl

pub returns-clause-boxed_check : goal.returns-clause-boxed_check
unfolding clap_on_literals
returns-clause-boxed_check c = refl

pub returns-clause-too_large : goal.returns-clause-too_large
unfolding clap_on_literals
returns-clause-too_large c = refl

pub returns-clause-no_rounds : goal.returns-clause-no_rounds
unfolding clap_on_literals
returns-clause-no_rounds c = refl

pub returns-clause-rules : goal.returns-clause-rules
unfolding clap_on_literals
returns-clause-rules c = refl

pub returns-clause-deep_rules : goal.returns-clause-deep_rules
unfolding clap_on_literals
returns-clause-deep_rules c = refl

pub returns-clause-rules_log : goal.returns-clause-rules_log
unfolding clap_on_literals
returns-clause-rules_log c = refl

pub returns-clause-deep_replay : goal.returns-clause-deep_replay
unfolding clap_on_literals
returns-clause-deep_replay c = refl

pub returns-clause-two_logs : goal.returns-clause-two_logs
unfolding clap_on_literals
returns-clause-two_logs c = refl

pub returns-clause-pre_rules : goal.returns-clause-pre_rules
unfolding clap_on_literals
returns-clause-pre_rules c = refl

pub returns-clause-translate : goal.returns-clause-translate
unfolding clap_on_literals
returns-clause-translate c = refl

pub returns-clause-log_translate : goal.returns-clause-log_translate
unfolding clap_on_literals
returns-clause-log_translate c = refl

pub returns-clause-deep_translate : goal.returns-clause-deep_translate
unfolding clap_on_literals
returns-clause-deep_translate c = refl

pub returns-clause-narrow : goal.returns-clause-narrow
unfolding clap_on_literals
returns-clause-narrow c = refl

pub returns-clause-narrow_check : goal.returns-clause-narrow_check
unfolding clap_on_literals
returns-clause-narrow_check c = refl

pub returns-clause-twice_narrow : goal.returns-clause-twice_narrow
unfolding clap_on_literals
returns-clause-twice_narrow c = refl

pub returns-clause-value_narrow : goal.returns-clause-value_narrow
unfolding clap_on_literals
returns-clause-value_narrow c = refl

pub returns-clause-narrow_refute : goal.returns-clause-narrow_refute
unfolding clap_on_literals
returns-clause-narrow_refute c = refl

pub returns-clause-narrow_rules : goal.returns-clause-narrow_rules
unfolding clap_on_literals
returns-clause-narrow_rules c = refl

pub returns-clause-narrow_translate : goal.returns-clause-narrow_translate
unfolding clap_on_literals
returns-clause-narrow_translate c = refl

pub returns-clause-narrow_demo : goal.returns-clause-narrow_demo
unfolding clap_on_literals
returns-clause-narrow_demo c = refl

pub returns-clause-first_narrow : goal.returns-clause-first_narrow
unfolding clap_on_literals
returns-clause-first_narrow c = refl
