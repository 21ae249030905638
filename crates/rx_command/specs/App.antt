-- What `clap` knows of the command line.
use Rattle.std.specs.Prelude.{true, Some, codes}
use Rattle.clap.specs.Simple.{on_top}
use Rattle.clap.specs.declared.builder.action.ArgAction.TheVariants.{SetTrue}
use Rattle.clap.specs.Words.{App, Rule, Text, new_app, new_rule, with_rule}

-- an option with a value
abbrev pub option_rule : Text → Rule
option_rule id = record (new_rule id) { long = Some id }

-- an option without a value
abbrev pub flag_rule : Text → Rule
flag_rule id = record (option_rule id) { action = Some SetTrue }

-- the command, with no flag for help
abbrev pub bare_app : App
bare_app = on_top (λ s. record s { disable_help_flag = true }) (new_app (codes "ctrl"))

-- its words in order: a mode, a file, two functions, a log
abbrev pub with_words : App → App
with_words app =
    with_rule
    (with_rule
    (with_rule
    (with_rule
    (with_rule app (new_rule (codes "mode")))
    (new_rule (codes "file")))
    (new_rule (codes "first")))
    (new_rule (codes "second")))
    (new_rule (codes "log"))

-- its options: a precondition, how deep the search goes, how many visits it makes, how large the
-- arguments are, how many rounds a run may take; and the flag for 32-bit integers
abbrev pub with_options : App → App
with_options app =
    with_rule
    (with_rule
    (with_rule
    (with_rule
    (with_rule
    (with_rule app (option_rule (codes "pre")))
    (option_rule (codes "depth")))
    (option_rule (codes "budget")))
    (option_rule (codes "box")))
    (option_rule (codes "rounds")))
    (flag_rule (codes "int32"))

abbrev pub command_app : App
command_app = with_options (with_words bare_app)
