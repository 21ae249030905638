-- What the call writes to standard error, and why it may write less.
use Rattle.std.specs.Prelude.{◌≡◌, ◌⊎◌, ◌≤◌, ℕ, Bool, true, false, List, [], Option, Some, None, Result, Ok, Err, length, is_none, if◌then◌else◌}
use Rattle.std.specs.Io.KnownBytes.{Appends, Keeps}
use Rattle.rx_io.specs.Outside.{AppendsPrefix, HoldsBytes, HoldsMore, IsMissing, Names}
use Rattle.rx_report.specs.declared.ends.Status.{Status}
use Rattle.rx_report.specs.declared.verdicts.Verdict.{Verdict}
use Rattle.rx_messages.specs.Asked.{Asked, file_of}
use Rattle.rx_messages.specs.Faults.{is_about_pre, place_of}
use Rattle.rx_logstate.specs.AtSteps.{HasNoPlace, IsNoLog, Stand}
use Rattle.rx_messages.specs.Logs.{AreFacts, Facts, is_before_steps, longest_log, step_wanted}
use Rattle.rx_messages.specs.Messages.{message}
use Rattle.rx_messages.specs.RuleTexts.{IsNoRuleText, is_about_rule, lines_name}
use Rattle.rx_messages.specs.declared.logs.Posed.{Posed}
use Rattle.rx_messages.specs.declared.silences.Silence.{Silence}
use Rattle.rx_messages.specs.declared.silences.Silence.TheVariants.{NoMemory, Unread, Changed, Cut}

-- the name under which a text is read: only where the report names a place of it
abbrev pub name_for : Asked → Verdict → Option (List ℕ)
name_for asked verdict =
    if is_none (place_of verdict) then None
    else (if is_about_pre verdict then None else file_of asked)

abbrev pub name_read : Asked → Option Verdict → Option (List ℕ)
name_read asked None = None
name_read asked (Some verdict) = name_for asked verdict

-- the most bytes of a text of functions
abbrev pub longest_source : ℕ
longest_source = 1048576

-- what is read: what is held under the name, where that is known, else some bytes
abbrev pub IsRead : Option Names → Option (List ℕ) → List ℕ → Type 0
IsRead held None given = given ≡ []
IsRead held (Some name) given = HoldsBytes held name given × (length given ≤ longest_source)

-- a file can't be read: a call on the files found a fault, or they don't hold the name, or hold
-- more than so many bytes
abbrev pub IsUnreadAs : Option Names → Type 0 → ℕ → List ℕ → Type 0
IsUnreadAs held read_fault most file =
    read_fault ⊎ (IsMissing held file ⊎ HoldsMore held file most)

-- there is a name, and its file can't be read
abbrev pub IsUnread : Option Names → Type 0 → ℕ → Option (List ℕ) → Type 0
IsUnread held read_fault most name =
    (file : List ℕ) × (name ≡ Some file) × IsUnreadAs held read_fault most file

-- what the message is about can't be read: the text, or the file of which a line is shown
abbrev pub HasUnread : Option Names → Type 0 → Asked → Option Verdict → Type 0
HasUnread held read_fault asked verdict =
    IsUnread held read_fault longest_source (name_read asked verdict)
    ⊎ IsUnread held read_fault longest_log (lines_name asked verdict)

-- what is held in the place of the log isn't one that comes to the step
abbrev pub IsOtherAt : Option Names → List ℕ → Option Posed → Option ℕ → Type 0
IsOtherAt held name None wanted = ⊥
IsOtherAt held name (Some posed) None = ⊥
IsOtherAt held name (Some posed) (Some number) =
    Stand held name (HasNoPlace posed.rules posed.goal number)

abbrev pub HasOtherLog : Option Names → Option (List ℕ) → Option Posed → Option ℕ → Type 0
HasOtherLog held None posed wanted = ⊥
HasOtherLog held (Some name) posed wanted = IsOtherAt held name posed wanted

-- where the report is about a line before the steps, what is held in the place of the log is none
abbrev pub IsNoLogAt : Option Names → List ℕ → Bool → Type 0
IsNoLogAt held name false = ⊥
IsNoLogAt held name true = Stand held name IsNoLog

abbrev pub HasNoLog : Option Names → Option (List ℕ) → Bool → Type 0
HasNoLog held None wanted = ⊥
HasNoLog held (Some name) wanted = IsNoLogAt held name wanted

-- where the report is about a rule, what is held in the place of the rule text is none
abbrev pub IsNoRulesAt : Option Names → List ℕ → Bool → Type 0
IsNoRulesAt held name false = ⊥
IsNoRulesAt held name true = Stand held name IsNoRuleText

abbrev pub HasNoRules : Option Names → Option (List ℕ) → Bool → Type 0
HasNoRules held None wanted = ⊥
HasNoRules held (Some name) wanted = IsNoRulesAt held name wanted

-- what is held in the place of the log, or of the rule text, isn't one that the report can be about
abbrev pub HasChangedFile : Option Names → Option (List ℕ) → Option Posed → Option Verdict → Type 0
HasChangedFile held name posed verdict =
    HasOtherLog held name posed (step_wanted verdict)
    ⊎ (HasNoLog held name (is_before_steps verdict)
    ⊎ HasNoRules held name (is_about_rule verdict))

-- the message on what is read, which is P
pub record HasMessage (held : Option Names) (asked : Asked) (posed : Option Posed) (status : Status)
    (verdict : Option Verdict) (P : List ℕ → Type 0)
    : Type 0 where
  pub given : List ℕ
  pub facts : Facts
  pub text : List ℕ
  pub read : IsRead held (name_read asked verdict) given
  pub of_file : AreFacts held (lines_name asked verdict) posed verdict facts
  pub is : message asked status verdict given facts ≡ Some text
  pub so : P text

-- what is read has no such place as the report names
pub record HasOtherText (held : Option Names) (asked : Asked) (posed : Option Posed)
    (status : Status) (verdict : Option Verdict)
    : Type 0 where
  pub given : List ℕ
  pub facts : Facts
  pub read : IsRead held (name_read asked verdict) given
  pub of_file : AreFacts held (lines_name asked verdict) posed verdict facts
  pub none : message asked status verdict given facts ≡ None

-- the text, the log or the rule text has no such place (any more)
abbrev pub HasChanged : Option Names → Asked → Option Posed → Status → Option Verdict → Type 0
HasChanged held asked posed status verdict =
    HasOtherText held asked posed status verdict
    ⊎ HasChangedFile held (lines_name asked verdict) posed verdict

-- the whole message is written; or nothing, for a cause; or, where a call on the output found a
-- fault, a part of the message
abbrev pub Explains : Option Names → Type 0 → Type 0 → Asked → Option Posed → Status →
    Option Verdict →
    Option (List ℕ) → Option (List ℕ) → Result (Unit {0}) Silence → Type 0
Explains held read_fault write_fault asked posed status verdict old new (Ok _) =
    HasMessage held asked posed status verdict (λ text. Appends old new text)
Explains held read_fault write_fault asked posed status verdict old new (Err NoMemory) = Keeps old new
Explains held read_fault write_fault asked posed status verdict old new (Err Unread) =
    Keeps old new × HasUnread held read_fault asked verdict
Explains held read_fault write_fault asked posed status verdict old new (Err Changed) =
    Keeps old new × HasChanged held asked posed status verdict
Explains held read_fault write_fault asked posed status verdict old new (Err Cut) =
    write_fault × HasMessage held asked posed status verdict (λ text. AppendsPrefix old new text)
