-- What is said of a text and of the log of a proof.
use Rattle.std.specs.Prelude.{◌≡◌, ◌⊎◌, ℕ, List, Option, Some, None, length, nat_lt, MatchBool}
use Rattle.c_front.specs.declared.stages.Next.TheVariants.{Ends, Goes}
use Rattle.rx_command.specs.Commands.{Functions}
use Rattle.rx_log.specs.declared.log.Log.{Log}
use Rattle.rx_log.specs.Acceptance as acceptance
use Rattle.rx_log.specs.Acceptance.{HasVerdict}
use Rattle.rx_logtext.specs.Logs.{IsFirstBad, IsLog}
use Rattle.rx_cli.specs.declared.problems.Problem.{Problem}
use Rattle.rx_report.specs.declared.verdicts.Verdict.{Verdict}
use Rattle.rx_report.specs.declared.verdicts.Verdict.TheVariants as Said
use Rattle.rx_cli.specs.Problems.{asked}
use Rattle.rx_report.specs.Verdicts.{of_log_verdict}

-- the most bytes of a log
abbrev pub longest_log : ℕ
longest_log = 67108864

-- the verdict of the replay, for the rules and the goal
abbrev pub OnLog : Problem → Log → Verdict → Type 0
OnLog problem log verdict =
    (said : acceptance.Verdict) × HasVerdict problem.rules problem.goal log said
    × (verdict ≡ of_log_verdict said)

-- bytes with which no log begins are refused at the first such line; the text of a log is replayed
abbrev pub OnText : Problem → List ℕ → Verdict → Type 0
OnText problem bytes verdict =
    ((number : ℕ) × IsFirstBad bytes number × (verdict ≡ Said.Line number))
    ⊎ ((log : Log) × IsLog bytes log × OnLog problem log verdict)

-- what was read in the place of the log: nothing, too much, or other bytes
abbrev pub OnRead : Problem → Option (List ℕ) → Verdict → Type 0
OnRead problem None verdict = verdict ≡ Said.ReadFault
OnRead problem (Some bytes) verdict =
    MatchBool (nat_lt longest_log (length bytes)) (verdict ≡ Said.LongLog)
    (OnText problem bytes verdict)

-- what is said of a text, two functions of it, and what was read in the place of the log
abbrev pub IsChecked : Functions → List ℕ → Option (List ℕ) → Verdict → Type 0
IsChecked f source log verdict =
    asked f source (Ends verdict)
    ⊎ ((problem : Problem) × asked f source (Goes problem) × OnRead problem log verdict)
