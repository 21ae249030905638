-- The message on a run that isn't a plain yes.
use Rattle.std.specs.Prelude.{Bool, true, false, ℕ, ◌-◌, ◌==◌, List, [], ◌++◌, codes, decimal, length, take, drop, Option, Some, None, option_map, if◌then◌else◌}
use Rattle.c_ast.specs.declared.integers.Integers.{Integers}
use Rattle.c_ast.specs.declared.integers.Integers.TheVariants.{Unbounded, Bits32}
use Rattle.rx_command.specs.Commands.{Functions}
use Rattle.rx_report.specs.Ends.{status_of}
use Rattle.rx_report.specs.Texts as report
use Rattle.rx_report.specs.declared.ends.Status.{Status}
use Rattle.rx_report.specs.declared.ends.Status.TheVariants as Ends
use Rattle.rx_report.specs.declared.verdicts.Verdict.{Verdict}
use Rattle.rx_report.specs.declared.verdicts.Verdict.TheVariants as Said
use Rattle.rx_places.specs.Excerpts.{excerpt}
use Rattle.rx_places.specs.Pieces.{quoted}
use Rattle.rx_places.specs.Places.{column_of, line_of}
use Rattle.rx_places.specs.declared.spots.Spot.{Spot}
use Rattle.rx_messages.specs.declared.faults.Place.{Place}
use Rattle.rx_messages.specs.Asked.{Asked, call, call_of, condition_of, file_name, file_of}
use Rattle.rx_messages.specs.Faults.{is_about_pre, place_of, spot_at}
use Rattle.rx_messages.specs.Logs.{Facts, log_text, number_text}
use Rattle.rx_messages.specs.Remarks.{is_about_log, mode_after, tries_of, words_of}

-- ---- parts

-- a line without its line end
abbrev pub without_last : List ℕ → List ℕ
without_last line = take (length line - 1) line

-- the report in brackets, and the line's end
abbrev pub in_brackets : List ℕ → List ℕ
in_brackets line = codes " (" ++ (without_last line ++ codes ")\n")

abbrev pub closing : Verdict → List ℕ
closing verdict = in_brackets (report.text_of verdict)

-- a run that isn't refused leaves a question open
abbrev pub kind_of : Status → List ℕ
kind_of Ends.Unknown = codes ": note: "
kind_of Ends.Different = codes ": note: "
kind_of status = codes ": error: "

-- ---- messages with a place

-- a place by its line and its column
abbrev pub line_column : List ℕ → ℕ → List ℕ
line_column text at =
    codes ":" ++ (decimal (line_of text at) ++ (codes ":"
    ++ (decimal (column_of text at) ++ codes ": error: ")))

-- the part of the text, as it is written there
abbrev pub part_text : List ℕ → Spot → List ℕ
part_text text spot =
    if spot.len == 0 then codes "the end of the text" else quoted (take spot.len (drop spot.at text))

-- the place, what stands there, what is wrong, the report, and the line
abbrev pub located : List ℕ → Verdict → Spot → List ℕ
located text verdict spot =
    line_column text spot.at ++ (part_text text spot ++ (words_of verdict
    ++ (closing verdict ++ excerpt text spot)))

-- the text that a report with a place is about: the precondition, or what was read of the file
abbrev pub subject_name : Asked → Verdict → List ℕ
subject_name asked verdict =
    if is_about_pre verdict then codes "--pre" else file_name (file_of asked)

abbrev pub subject : Asked → List ℕ → Verdict → List ℕ
subject asked given verdict =
    if is_about_pre verdict then condition_of asked.functions else given

-- ---- messages without a place

-- what is spoken of: the name that no function has
abbrev pub missing_name : ℕ → Option Functions → List ℕ
missing_name name None = []
missing_name name (Some f) = quoted (if name == 1 then f.first else f.second)

abbrev pub thing_of : Asked → Verdict → List ℕ
thing_of asked (Said.NoFunction name) = missing_name name asked.functions
thing_of asked verdict = []

-- the file that a report without a place is about
abbrev pub text_name : Asked → Verdict → List ℕ
text_name asked verdict =
    if is_about_log verdict then file_name asked.log else subject_name asked verdict

-- its name, with the line of the log or of the rule text
abbrev pub remark_name : Asked → Verdict → Facts → List ℕ
remark_name asked verdict facts = text_name asked verdict ++ number_text facts.number

-- a line of advice: a call, and more
abbrev pub advice_line : List ℕ → List ℕ → List ℕ
advice_line calls words = codes "  try: " ++ (calls ++ (words ++ codes "\n"))

-- the call that compares the functions in another mode; of 32-bit integers, which that mode doesn't
-- read, what was asked by the others
abbrev pub call_by : Integers → List ℕ → Functions → List ℕ
call_by Unbounded mode f = call_of mode f
call_by Bits32 mode f = codes "the same without --int32; "

abbrev pub call_after : Option (List ℕ) → Option Functions → List ℕ
call_after None functions = []
call_after (Some mode) None = []
call_after (Some mode) (Some f) = call_by f.integers mode f

-- advice after a report, where there is any
abbrev pub advice_with : List ℕ → Option (List ℕ) → List ℕ
advice_with calls None = []
advice_with calls (Some words) = advice_line calls words

abbrev pub advice : Asked → Verdict → List ℕ
advice asked verdict =
    advice_with (call_after (mode_after verdict) asked.functions) (tries_of verdict)

-- what is spoken of, what is said of it, the report, what is shown of the log, and advice
abbrev pub remark : Asked → Verdict → Facts → List ℕ
remark asked verdict facts =
    remark_name asked verdict facts ++ (kind_of (status_of verdict) ++ (thing_of asked verdict
    ++ (words_of verdict ++ (closing verdict ++ (log_text facts verdict ++ advice asked verdict)))))

-- the modes, with an example each
abbrev pub usage : List ℕ
usage =
    codes "ctrl: error: the words ask for nothing that ctrl does\n"
    ++ (codes "  a proof:          ctrl prove examples/sum.c up rec\n"
    ++ (codes "  a replay:         ctrl check examples/sum.c up rec examples/sum.log\n"
    ++ (codes "  a counterexample: ctrl refute examples/twice.c twice same\n"
    ++ (codes "  32-bit integers:  ctrl prove examples/order.c less minus --int32\n"
    ++ (codes "  written rules:    ctrl rules examples/sum.rules\n"
    ++ (codes "  rules of C:       ctrl translate examples/sum.c up rec\n"
    ++ codes "  some examples:    ctrl demo 10\n"))))))

-- ---- reports that are no line of a verdict

-- two functions that are alike at all points, or differ at one
abbrev pub alike : Asked → List ℕ
alike asked =
    file_name (file_of asked) ++ (codes ": note: no point is found at which the two differ\n"
    ++ advice_line (call (codes "prove") asked.functions) (codes "a greater --box; more --rounds"))

abbrev pub different : Asked → List ℕ
different asked =
    file_name (file_of asked) ++ (codes ": note: the two functions differ at these arguments\n"
    ++ codes "  try: to mend one of them, or a --pre that leaves these arguments out\n")

abbrev pub of_status : Asked → Status → List ℕ
of_status asked Ends.Unknown = alike asked
of_status asked Ends.Different = different asked
of_status asked Ends.WriteFault = codes "ctrl: error: the report couldn't be written whole\n"
of_status asked Ends.NoMemory = codes "ctrl: error: there was no memory, so nothing is reported\n"
of_status asked status = []

-- ---- all

-- the message on a report that names a place; none where the text has no such place
abbrev pub at_place : Asked → List ℕ → Verdict → Place → Option (List ℕ)
at_place asked given verdict place =
    option_map (λ spot. subject_name asked verdict
    ++ located (subject asked given verdict) verdict spot)
    (spot_at (subject asked given verdict) place)

-- the message on a report
abbrev pub on_place : Asked → List ℕ → Verdict → Facts → Option Place → Option (List ℕ)
on_place asked given verdict facts (Some place) = at_place asked given verdict place
on_place asked given verdict facts None = Some (remark asked verdict facts)

abbrev pub of_verdict : Asked → List ℕ → Verdict → Facts → Option (List ℕ)
of_verdict asked given Said.Usage facts = Some usage
of_verdict asked given verdict facts = on_place asked given verdict facts (place_of verdict)

-- the message on a run that reported this line, or none
abbrev pub on_report : Asked → Status → Option Verdict → List ℕ → Facts → Option (List ℕ)
on_report asked status None given facts = Some (of_status asked status)
on_report asked status (Some verdict) given facts = of_verdict asked given verdict facts

-- the run said yes
abbrev pub is_yes : Status → Bool
is_yes Ends.Equivalent = true
is_yes status = false

-- the message on a run, which is nothing after a yes
abbrev pub message : Asked → Status → Option Verdict → List ℕ → Facts → Option (List ℕ)
message asked status verdict given facts =
    if is_yes status then Some [] else on_report asked status verdict given facts
