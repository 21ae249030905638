-- What calls on a log say of it for a message.
use Rattle.std.specs.Prelude.{◌≡◌, ◌≤◌, ℕ, Bool, true, List, Option, Some, Ok, Err}
use Rattle.std.proofs.Common.{arith, inl, inr, refl, subst, sym}
use Rattle.rx_io.specs.Outside.{Names, Rose}
use Rattle.rx_logstate.specs.AtSteps as at
use Rattle.rx_logstate.specs.declared.at_step.AtStep.{AtStep}
use Rattle.rx_logstate.specs.declared.look_end.LookEnd.{LookEnd}
use Rattle.rx_logstate.specs.declared.look_end.LookEnd.TheVariants as look_end
use Rattle.rx_report.specs.declared.verdicts.Verdict.{Verdict}
use Rattle.rx_term.specs.declared.rule.Equation.{Equation}
use Rattle.rx_messages.specs.Explaining.{HasNoLog, HasNoRules, HasOtherLog, IsUnread, IsUnreadAs}
use Rattle.rx_messages.specs.Logs.{AreFronts, IsFound, IsLine, facts_view, is_before_steps, line_wanted, longest_log, step_wanted}
use Rattle.rx_messages.specs.RuleTexts.{AreSymbols, is_about_rule}
use Rattle.rx_messages.specs.Steps.{FindsFacts, FindsFronts, FindsLine, FindsStep, FindsSymbols, MeansLook}
use Rattle.rx_messages.specs.declared.logs.Facts as code
use Rattle.rx_messages.specs.declared.logs.Posed.{Posed}
use Rattle.rx_messages.specs.declared.silences.Silence.{Silence}
use Rattle.rx_messages.specs.declared.silences.Silence.TheVariants as silence

-- ---- the step

module _ (held : Option Names) (fault : Type 0) (name : List ℕ) (posed : Posed) (number : ℕ) where
  -- the step was found in the log
  pub step_found : (goal : Equation) (found : AtStep) → goal ≡ posed.goal →
      at.FindsStep held fault name longest_log posed.rules goal number (Ok found) →
      FindsStep held fault (Some name) (Some posed) (Some number) (Ok (Some found))
  step_found goal found same finds =
      subst (λ (e : Equation). at.FindsStep held fault name longest_log posed.rules e number
      (Ok found)) same finds

  by_end : (end : LookEnd) (said : Silence) → MeansLook end said →
      at.FindsStep held fault name longest_log posed.rules posed.goal number (Err end) →
      FindsStep held fault (Some name) (Some posed) (Some number) (Err said)
  by_end look_end.Unread said means finds =
      subst (λ (s : Silence). FindsStep held fault (Some name) (Some posed) (Some number) (Err s))
      (sym means) (name, refl, finds)
  by_end look_end.NoPlace said means finds =
      subst (λ (s : Silence). FindsStep held fault (Some name) (Some posed) (Some number) (Err s))
      (sym means) finds
  by_end look_end.NoMemory said means finds =
      subst (λ (s : Silence). FindsStep held fault (Some name) (Some posed) (Some number) (Err s))
      (sym means) tt

  -- or why it wasn't
  pub step_missed : (goal : Equation) (end : LookEnd) (said : Silence) → goal ≡ posed.goal →
      MeansLook end said →
      at.FindsStep held fault name longest_log posed.rules goal number (Err end) →
      FindsStep held fault (Some name) (Some posed) (Some number) (Err said)
  step_missed goal end said same means finds =
      by_end end said means
      (subst (λ (e : Equation). at.FindsStep held fault name longest_log posed.rules e number
      (Err end)) same finds)

-- ---- the lines before the steps

-- why it isn't known where they begin
pub fronts_missed : (held : Option Names) (fault : Type 0) (name : List ℕ) (end : LookEnd)
    (said : Silence) → MeansLook end said →
    at.FindsFronts held fault name longest_log (Err end) →
    FindsFronts held fault (Some name) true (Err said)
fronts_missed held fault name look_end.Unread said means finds =
    subst (λ (s : Silence). FindsFronts held fault (Some name) true (Err s))
    (sym means) (name, refl, finds)
fronts_missed held fault name look_end.NoPlace said means finds =
    subst (λ (s : Silence). FindsFronts held fault (Some name) true (Err s)) (sym means) finds
fronts_missed held fault name look_end.NoMemory said means finds =
    subst (λ (s : Silence). FindsFronts held fault (Some name) true (Err s)) (sym means) tt

-- ---- a fault that is counted from earlier on

rose_before : (start before now : ℕ) → start ≤ before → Rose before now → Rose start now
rose_before start before now later rose = omega (arith, later, rose)

unread_as_before : (held : Option Names) (start before now most : ℕ) (file : List ℕ) →
    start ≤ before → IsUnreadAs held (Rose before now) most file →
    IsUnreadAs held (Rose start now) most file
unread_as_before held start before now most file later (inl rose) =
    inl (rose_before start before now later rose)
unread_as_before held start before now most file later (inr other) = inr other

unread_before : (held : Option Names) (start before now most : ℕ) (name : Option (List ℕ)) →
    start ≤ before → IsUnread held (Rose before now) most name →
    IsUnread held (Rose start now) most name
unread_before held start before now most name later (file, is, unread) =
    (file, is, unread_as_before held start before now most file later unread)

-- ---- all facts

-- the step wasn't found
pub no_step : (held : Option Names) (before now : ℕ) (name : Option (List ℕ))
    (posed : Option Posed) (verdict : Option Verdict) (wanted : Option ℕ) (end : Silence) →
    wanted ≡ step_wanted verdict →
    FindsStep held (Rose before now) name posed wanted (Err end) →
    FindsFacts held before now name posed verdict (Err end)
no_step held before now name posed verdict wanted silence.NoMemory same finds = tt
no_step held before now name posed verdict wanted silence.Unread same finds =
    λ start later. unread_before held start before now longest_log name later finds
no_step held before now name posed verdict wanted silence.Changed same finds =
    inl (subst (λ (o : Option ℕ). HasOtherLog held name posed o) same finds)
no_step held before now name posed verdict wanted silence.Cut same finds = absurd finds

-- it couldn't be found where the lines before the steps begin, after calls for the step
pub no_fronts : (held mid : Option Names) (before between now : ℕ) (name : Option (List ℕ))
    (posed : Option Posed) (verdict : Option Verdict) (wanted : Bool) (end : Silence) →
    mid ≡ held → before ≤ between → wanted ≡ is_before_steps verdict →
    FindsFronts mid (Rose between now) name wanted (Err end) →
    FindsFacts held before now name posed verdict (Err end)
no_fronts held mid before between now name posed verdict wanted silence.NoMemory same up is finds = tt
no_fronts held mid before between now name posed verdict wanted silence.Unread same up is finds =
    λ start later. unread_before held start between now longest_log name (omega arith)
    (subst (λ (h : Option Names). IsUnread h (Rose between now) longest_log name) same finds)
no_fronts held mid before between now name posed verdict wanted silence.Changed same up is finds =
    inr (inl (subst (λ (b : Bool). HasNoLog held name b) is
    (subst (λ (h : Option Names). HasNoLog h name wanted) same finds)))
no_fronts held mid before between now name posed verdict wanted silence.Cut same up is finds =
    absurd finds

-- it couldn't be found how many symbols there are, after other calls
pub no_symbols : (held mid : Option Names) (before between now : ℕ) (name : Option (List ℕ))
    (posed : Option Posed) (verdict : Option Verdict) (wanted : Bool) (end : Silence) →
    mid ≡ held → before ≤ between → wanted ≡ is_about_rule verdict →
    FindsSymbols mid (Rose between now) name wanted (Err end) →
    FindsFacts held before now name posed verdict (Err end)
no_symbols held mid before between now name posed verdict wanted silence.NoMemory same up is finds =
    tt
no_symbols held mid before between now name posed verdict wanted silence.Unread same up is finds =
    λ start later. unread_before held start between now longest_log name (omega arith)
    (subst (λ (h : Option Names). IsUnread h (Rose between now) longest_log name) same finds)
no_symbols held mid before between now name posed verdict wanted silence.Changed same up is finds =
    inr (inr (subst (λ (b : Bool). HasNoRules held name b) is
    (subst (λ (h : Option Names). HasNoRules h name wanted) same finds)))
no_symbols held mid before between now name posed verdict wanted silence.Cut same up is finds =
    absurd finds

-- the line couldn't be read, after other calls
pub no_line : (held mid : Option Names) (before between now : ℕ) (name : Option (List ℕ))
    (posed : Option Posed) (verdict : Option Verdict) (wanted : Option ℕ) (end : Silence) →
    mid ≡ held → before ≤ between →
    FindsLine mid (Rose between now) name wanted (Err end) →
    FindsFacts held before now name posed verdict (Err end)
no_line held mid before between now name posed verdict wanted silence.NoMemory same up finds = tt
no_line held mid before between now name posed verdict wanted silence.Unread same up finds =
    λ start later. unread_before held start between now longest_log name (omega arith)
    (subst (λ (h : Option Names). IsUnread h (Rose between now) longest_log name) same finds)
no_line held mid before between now name posed verdict wanted silence.Changed same up finds =
    absurd finds
no_line held mid before between now name posed verdict wanted silence.Cut same up finds = absurd finds

-- all was found
pub all_found : (held mid next last : Option Names) (before now : ℕ) (name : Option (List ℕ))
    (posed : Option Posed) (verdict : Option Verdict) (wanted : Option ℕ) (early ruled : Bool)
    (facts : code.Facts) → mid ≡ held → next ≡ held → last ≡ held → wanted ≡ step_wanted verdict →
    early ≡ is_before_steps verdict → ruled ≡ is_about_rule verdict →
    (facts_view facts).posed ≡ posed →
    facts.number ≡ line_wanted verdict facts.found facts.fronts facts.symbols →
    IsFound held name posed wanted facts.found → AreFronts mid name early facts.fronts →
    AreSymbols next name ruled facts.symbols → IsLine last name facts.number facts.line.items →
    FindsFacts held before now name posed verdict (Ok facts)
all_found held mid next last before now name posed verdict wanted early ruled facts same same_next
    same_last is early_is ruled_is posed_is number at fronts symbols line = record {
      same = posed_is;
      at = subst (λ (o : Option ℕ). IsFound held name posed o facts.found) is at;
      fronts =
          subst (λ (b : Bool). AreFronts held name b facts.fronts) early_is
          (subst (λ (h : Option Names). AreFronts h name early facts.fronts) same fronts);
      symbols =
          subst (λ (b : Bool). AreSymbols held name b facts.symbols) ruled_is
          (subst (λ (h : Option Names). AreSymbols h name ruled facts.symbols) same_next symbols);
      number = number;
      line =
          subst (λ (h : Option Names). IsLine h name facts.number facts.line.items) same_last line;
    }
