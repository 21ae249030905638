-- What a report says that names no place in a text of the functions: in words, and what to try.
use Rattle.std.specs.Prelude.{ℕ, Bool, true, false, List, [], Option, Some, None, codes}
use Rattle.c_parse.specs.declared.error.ParseEnd.TheVariants as Flaw
use Rattle.rx_check.specs.declared.check_end.CheckEnd.{CheckEnd}
use Rattle.rx_check.specs.declared.check_end.CheckEnd.TheVariants as End
use Rattle.rx_steps.specs.declared.step_end.StepEnd.{StepEnd}
use Rattle.rx_steps.specs.declared.step_end.StepEnd.TheVariants as Unmet
use Rattle.rx_report.specs.declared.verdicts.Verdict.{Verdict}
use Rattle.rx_report.specs.declared.verdicts.Verdict.TheVariants as Said
use Rattle.rx_messages.specs.Faults.{words_of_fault, words_of_parse, words_of_scope}

-- ---- logs

abbrev pub words_of_step : StepEnd → List ℕ
words_of_step Unmet.NoGoal = codes "the step comes where no goal is left"
words_of_step Unmet.WrongShape = codes "the step doesn't fit the first goal"
words_of_step Unmet.NoSuchRule = codes "the step names a rule or a hypothesis that isn't there"
words_of_step (Unmet.NotShown condition) = codes "a condition of the step isn't shown"
words_of_step Unmet.Large = []
words_of_step Unmet.NoMemory = []

abbrev pub words_of_check : CheckEnd → List ℕ
words_of_check (End.BadDomain symbol) =
    codes "a symbol has no domain over its own arguments, or there are more domains than symbols"
words_of_check (End.NotKept part) =
    codes "the goal (0) or a rule (counted from 1) isn't shown to stay inside the domains"
words_of_check (End.Step step end) = words_of_step end
words_of_check (End.Unfinished goals) = codes "goals are left after the last step"
words_of_check (End.NotCovered symbol) =
    codes "the trees of a symbol don't show that some rule applies everywhere, or are missing"
words_of_check (End.BadRanks symbol) =
    codes "a symbol has no rank of the right width over its own arguments"
words_of_check (End.NotLower pair) = codes "a call isn't shown to be lower than what it replaces"
words_of_check (End.Large place) = codes "a polynomial of the log passes the limits"
words_of_check End.NoMemory = []

-- it is about the log
abbrev pub is_about_log : Verdict → Bool
is_about_log Said.LongLog = true
is_about_log (Said.Line number) = true
is_about_log (Said.Check end) = true
is_about_log verdict = false

-- ---- all reports

-- what a report says, behind the word that it is about
abbrev pub words_of : Verdict → List ℕ
words_of Said.Equivalent = []
words_of Said.NoRanks =
    codes "no ranks are found by which all calls go down, of both functions or of the rules"
words_of (Said.Depth depth) = codes "no proof with so few choices is found"
words_of (Said.Visits visits) = codes "no proof is found in so many visits"
words_of (Said.Demo pairs equivalent) = codes "not all examples are proved"
words_of Said.LongSource = codes "the file has more than 1048576 bytes"
words_of Said.LongLog = codes "the log has more than 67108864 bytes"
words_of (Said.Lex fault) = words_of_fault fault
words_of (Said.Parse end) = words_of_parse end
words_of (Said.Scope end) = words_of_scope end
words_of (Said.WideLiteral token) = codes " is above 2147483647, the greatest 32-bit integer"
words_of (Said.NoFunction name) = codes " is no function of this file"
words_of (Said.Arity first second) =
    codes "the two functions have different numbers of parameters"
words_of (Said.PreLex fault) = words_of_fault fault
words_of (Said.PreParse end) = words_of_parse end
words_of (Said.PreName token) = codes " is no parameter of the first function"
words_of (Said.Box count) = codes "there are more than 1000000 points"
words_of (Said.Line number) = codes "no log goes on like this"
words_of (Said.Check end) = words_of_check end
words_of (Said.RuleLine number) = codes "no rule text goes on like this"
words_of (Said.NotMade rule) =
    codes "the rule with this number isn't well made, or the equation behind all rules doesn't fit"
words_of Said.NoCover = codes "no trees are found that show that some rule applies everywhere"
words_of Said.Inductive = []
words_of Said.Usage = codes "the words ask for nothing that ctrl does"
words_of Said.ReadFault = codes "the file can't be read, or the log can't"
words_of Said.LargeTranslate = codes "a polynomial of the functions passes the limits"
words_of Said.LargePre = codes "a polynomial of the precondition passes the limits"
words_of Said.LargeSearch = codes "a polynomial that the search forms passes the limits"
words_of Said.LargeRules = codes "the rules of the functions pass the limits of rule texts"

-- the log that isn't accepted may be mended
abbrev pub tries_after_check : CheckEnd → Option (List ℕ)
tries_after_check (End.BadDomain symbol) =
    Some (codes "docs/LOG-FORMAT.md, which says what each line is")
tries_after_check (End.NotKept part) =
    Some (codes "other domains; the --pre of the proof, if it was left out")
tries_after_check (End.Step step end) = Some (codes "docs/STEPS.md, which says what each step asks")
tries_after_check (End.Unfinished goals) = Some (codes "more steps")
tries_after_check (End.NotCovered symbol) =
    Some (codes "docs/LOG-FORMAT.md; a log is for two functions in their order, with --int32 or without it, or for one rule text")
tries_after_check (End.BadRanks symbol) = Some (codes "another rank table")
tries_after_check (End.NotLower pair) = Some (codes "another rank table")
tries_after_check (End.Large place) = Some (codes "another proof")
tries_after_check End.NoMemory = None

-- what to try; nothing where the words say it
abbrev pub tries_of : Verdict → Option (List ℕ)
tries_of Said.NoRanks =
    Some (codes
    "a base case that ends everywhere (n <= 0, not n == 0), or --pre with what it needs; a loop with its test in front")
tries_of (Said.Depth depth) =
    Some (codes
    "a greater --depth; --pre (of a rule text: rows), if it is to hold for some arguments only; smaller parts")
tries_of (Said.Visits visits) =
    Some (codes
    "a greater --budget; --pre (of a rule text: rows), if it is to hold for some arguments only; smaller parts")
tries_of Said.LongSource = Some (codes "to leave out what the two functions don't need")
tries_of (Said.NoFunction name) = Some (codes "another spelling of the name")
tries_of (Said.Arity first second) = Some (codes "the same parameters for both, in the same order")
tries_of (Said.PreParse Flaw.NotARowForm) =
    Some (codes "comparisons of literals, parameters, +, - and *, joined by &&")
tries_of (Said.Box count) = Some (codes "a smaller --box")
tries_of (Said.Line number) = Some (codes "docs/LOG-FORMAT.md, which says what each line is")
tries_of (Said.Check end) = tries_after_check end
tries_of (Said.RuleLine number) = Some (codes "docs/RULE-TEXT.md, which says what each line is")
tries_of (Said.NotMade rule) = Some (codes "docs/RULE-TEXT.md, which says what is well made")
tries_of Said.NoCover = Some (codes "rules for the arguments and results that are left out")
tries_of Said.ReadFault = Some (codes "the names of the files, and whether they may be read")
tries_of Said.LargeTranslate = Some (codes "to compare smaller parts")
tries_of Said.LargePre = Some (codes "to compare smaller parts")
tries_of Said.LargeSearch = Some (codes "to compare smaller parts")
tries_of Said.LargeRules = Some (codes "to translate smaller parts")
tries_of verdict = None

-- the mode in which the functions may be compared instead
abbrev pub mode_after : Verdict → Option (List ℕ)
mode_after Said.NoRanks = Some (codes "refute")
mode_after (Said.Depth depth) = Some (codes "refute")
mode_after (Said.Visits visits) = Some (codes "refute")
mode_after verdict = None
