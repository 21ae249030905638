-- What a refusal of the front end, and what is said of a log, are as verdicts.
use Rattle.c_front.specs.declared.refusals.Refusal.{Refusal}
use Rattle.c_front.specs.declared.refusals.Refusal.TheVariants as Why
use Rattle.rx_check.specs.declared.check_end.CheckEnd.{CheckEnd}
use Rattle.rx_check.specs.declared.check_end.CheckEnd.TheVariants as End
use Rattle.rx_check.specs.declared.check_end.LimitAt as limit
use Rattle.rx_check.specs.declared.check_end.LimitAt.TheVariants as At
use Rattle.rx_inference.specs.Judging.{StepFault}
use Rattle.rx_inference.specs.Judging as judging
use Rattle.rx_log.specs.Acceptance as acceptance
use Rattle.rx_log.specs.Acceptance.{LogFault}
use Rattle.rx_steps.specs.declared.step_end.StepEnd.{StepEnd}
use Rattle.rx_steps.specs.declared.step_end.StepEnd.TheVariants as Unmet
use Rattle.rx_report.specs.declared.verdicts.Verdict.{Verdict}
use Rattle.rx_report.specs.declared.verdicts.Verdict.TheVariants as Said

-- a refusal of the front end
abbrev pub verdict_of : Refusal → Verdict
verdict_of (Why.Lex fault) = Said.Lex fault
verdict_of (Why.Parse end) = Said.Parse end
verdict_of (Why.Scope end) = Said.Scope end
verdict_of (Why.WideLiteral token) = Said.WideLiteral token
verdict_of (Why.NoFunction name) = Said.NoFunction name
verdict_of (Why.Arity m n) = Said.Arity m n
verdict_of (Why.PreLex fault) = Said.PreLex fault
verdict_of (Why.PreParse end) = Said.PreParse end
verdict_of (Why.PreName token) = Said.PreName token

-- why a step doesn't apply
abbrev pub step_end_of : StepFault → StepEnd
step_end_of judging.NoGoal = Unmet.NoGoal
step_end_of judging.WrongShape = Unmet.WrongShape
step_end_of judging.NoSuchRule = Unmet.NoSuchRule
step_end_of (judging.NotShown condition) = Unmet.NotShown condition
step_end_of judging.Large = Unmet.Large

-- where something passes the limits
abbrev pub place_of : acceptance.LimitAt → limit.LimitAt
place_of (acceptance.AtKeep part) = At.Keep part
place_of (acceptance.AtCover symbol) = At.Cover symbol
place_of (acceptance.AtStep step) = At.Step step
place_of (acceptance.AtPair pair) = At.Pair pair

-- the first fault of a log
abbrev pub end_of : LogFault → CheckEnd
end_of (acceptance.BadDomain symbol) = End.BadDomain symbol
end_of (acceptance.NotKept part) = End.NotKept part
end_of (acceptance.NotCovered symbol) = End.NotCovered symbol
end_of (acceptance.Refused step fault) = End.Step step (step_end_of fault)
end_of (acceptance.Unfinished goals) = End.Unfinished goals
end_of (acceptance.BadRanks symbol) = End.BadRanks symbol
end_of (acceptance.NotLower pair) = End.NotLower pair
end_of (acceptance.PassesLimits place) = End.Large (place_of place)

-- what is said of a log
abbrev pub of_log_verdict : acceptance.Verdict → Verdict
of_log_verdict acceptance.Accepted = Said.Equivalent
of_log_verdict (acceptance.Fails fault) = Said.Check (end_of fault)
