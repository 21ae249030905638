-- Steps of a log that come one by one.
use Rattle.std.proofs.Common.{◌≡◌, ◌∙◌, ap, sym, refl, subst, ℕ, zero, suc, ◌+◌, ◌<◌, ◌≤◌, Bool, true, false, Option, Some, None, inl, inr, is_some, option_map, unwrap_or, Result, Ok, Err, List, [], ◌∷◌, ◌++◌, length, drop, min, take, append_assoc, length-append, arith}
use Rattle.std.proofs.lemmas.List.{append-nil, drop_all, length-take, take-append-le, take_all}
use Rattle.rx_inference.specs.Judging.{StepFault}
use Rattle.rx_inference.specs.Judging as judging
use Rattle.rx_inference.specs.States.{State, applied}
use Rattle.rx_inference.specs.declared.step.Step.{Step}
use Rattle.rx_log.specs.Acceptance.{◌>>=◌, after_step, after_steps, start, step_fault, used}
use Rattle.rx_cert.specs.declared.cert.Cert.{Cert}
use Rattle.rx_row.specs.declared.row.Row.{Row}
use Rattle.rx_domain.specs.Setting.{bad_domain, with_domains}
use Rattle.rx_domain.specs.declared.domains.Domains.{Domains}
use Rattle.rx_log.specs.Reading.{no_domains, pushed, with_domain, with_keep}
use Rattle.rx_log.specs.declared.line.Line.TheVariants as line
use Rattle.rx_log.specs.declared.log.Log.{Log}
use Rattle.rx_steps.specs.Faults.{Applies}
use Rattle.rx_steps.specs.declared.step_end.StepEnd.{StepEnd}
use Rattle.rx_steps.specs.declared.step_end.StepEnd.TheVariants as step_end
use Rattle.rx_term.specs.declared.rule.Equation.{Equation}
use Rattle.rx_term.specs.declared.rule_set.RuleParts.{RuleParts}
use Rattle.rx_logstate.specs.AtSteps.{IsRefusedBefore, rows_of, steps_before}
use Rattle.rx_logstate.specs.Following.{AreMade, Arrives, Comes, Concludes, Decides, Follows, FollowsNext, Goes, Holds, IsFresh, IsSet, MakesSet, SaysFault}
use Rattle.rx_logstate.specs.Fronts.{after_domain, after_domains, after_header, after_keep, fronts_of}
use Rattle.rx_logstate.specs.declared.following.Follower.{Follower}
use Rattle.rx_logstate.specs.declared.following.Proof.{Proof}
use Rattle.rx_logstate.specs.declared.following.Reached.{Reached}
use Rattle.rx_logstate.specs.declared.front_lines.Fronts.{Fronts}
use Rattle.rx_logstate.specs.declared.inside.Inside.{Inside}

-- ---- the state

module _ (parts : RuleParts) (goal : Equation) (steps : List Step) (state : State) (step : Step)
  where
    one_more : (more : List Step) → after_steps parts 0 (start goal) ((steps ++ step ∷ []) ++ more)
        ≡ after_steps parts 0 (start goal) (steps ++ step ∷ more)
    one_more more = ap (after_steps parts 0 (start goal)) (append_assoc steps (step ∷ []) more)

    pub accepted : (next : State) → applied parts state step ≡ Ok next →
        Decides false state parts goal steps → Decides false next parts goal (steps ++ step ∷ [])
    accepted next e h more =
        one_more more ∙ h (step ∷ more)
        ∙ ap (λ o. after_step (length steps) o >>= λ s. after_steps parts (length steps + 1) s more) e
        ∙ ap (λ k. after_steps parts k next more) (sym (length-append steps (step ∷ [])))

    pub refused : (fault : StepFault) (next : State) → applied parts state step ≡ Err fault →
        Decides false state parts goal steps → Decides true next parts goal (steps ++ step ∷ [])
    refused fault next e h = (
      step_fault (length steps) fault,
      λ more. one_more more ∙ h (step ∷ more)
          ∙ ap (λ o. after_step (length steps) o >>= λ s. after_steps parts (length steps + 1) s more) e,
    )

    pub still_refused : Decides true state parts goal steps →
        Decides true state parts goal (steps ++ step ∷ [])
    still_refused h = (h.0, λ more. one_more more ∙ h.1 (step ∷ more))

    -- the step was applied, and that it isn't accepted is told
    pub applied_one : (next : State) (end : Result (Unit {0}) StepEnd) (flag : Bool) →
        SaysFault end flag → Applies end next (applied parts state step) →
        Decides false state parts goal steps → Decides flag next parts goal (steps ++ step ∷ [])
    applied_one next (Ok done) flag says is h =
        subst (λ (b : Bool). Decides b next parts goal (steps ++ step ∷ [])) (sym says)
        (accepted next is h)
    applied_one next (Err step_end.NoMemory) flag says is h = absurd says
    applied_one next (Err step_end.NoGoal) flag says is h =
        subst (λ (b : Bool). Decides b next parts goal (steps ++ step ∷ [])) (sym says)
        (refused judging.NoGoal next (is (λ e. cc)) h)
    applied_one next (Err step_end.WrongShape) flag says is h =
        subst (λ (b : Bool). Decides b next parts goal (steps ++ step ∷ [])) (sym says)
        (refused judging.WrongShape next (is (λ e. cc)) h)
    applied_one next (Err step_end.NoSuchRule) flag says is h =
        subst (λ (b : Bool). Decides b next parts goal (steps ++ step ∷ [])) (sym says)
        (refused judging.NoSuchRule next (is (λ e. cc)) h)
    applied_one next (Err (step_end.NotShown i)) flag says is h =
        subst (λ (b : Bool). Decides b next parts goal (steps ++ step ∷ [])) (sym says)
        (refused (judging.NotShown i) next (is (λ e. cc)) h)
    applied_one next (Err step_end.Large) flag says is h =
        subst (λ (b : Bool). Decides b next parts goal (steps ++ step ∷ [])) (sym says)
        (refused judging.Large next (is (λ e. cc)) h)

-- a step that follows one that isn't accepted
pub refused_stays : (parts : RuleParts) (goal : Equation) (steps : List Step) (step : Step)
    (reached : Reached) → reached.is_refused ≡ true → Arrives reached parts goal steps →
    Arrives reached parts goal (steps ++ step ∷ [])
refused_stays parts goal steps step reached is h =
    subst (λ (b : Bool). Decides b reached.state parts goal (steps ++ step ∷ [])) (sym is)
    (still_refused parts goal steps reached.state step
    (subst (λ (b : Bool). Decides b reached.state parts goal steps) is h))

-- the state after all of them
pub reached : (parts : RuleParts) (goal : Equation) (steps : List Step) (state : State) →
    Decides false state parts goal steps → after_steps parts 0 (start goal) steps ≡ Ok state
reached parts goal steps state h =
    ap (after_steps parts 0 (start goal)) (sym (append-nil steps)) ∙ h []

pub refused_before : (parts : RuleParts) (goal : Equation) (number : ℕ) (log : Log) (state : State)
    → Decides true state (used parts log.domains) goal (steps_before number log)
    → IsRefusedBefore parts goal log number
refused_before parts goal number log state h = record {
  fault = h.0;
  is =
      ap (after_steps (used parts log.domains) 0 (start goal))
      (sym (append-nil (steps_before number log)))
      ∙ h.1 [];
}

-- ---- domains

-- a rule set is made, or a symbol has a bad domain
pub set_made : (parts : RuleParts) (inside : Inside) (domains : Option Domains)
    (lists : List (List Row)) (set : RuleParts) → inside.rows ≡ Some lists →
    MakesSet parts lists (Some set) → Holds inside parts domains →
    AreMade true (record inside { set = Some set }) parts domains
set_made parts inside None lists set there made h =
    let no : Some lists ≡ None = sym there ∙ h.rows in
    absurd (cc)
set_made parts inside (Some d) lists set there made h =
    let same : lists ≡ d.rows = some_same lists d.rows (sym there ∙ h.rows) in
    let is : set ≡ with_domains parts d.rows =
    made ∙ ap (λ (l : List (List Row)). with_domains parts l) same in
    (record { rows = h.rows; set = is }, is)
  where
    some_same : (xs ys : List (List Row)) → Some xs ≡ Some ys → xs ≡ ys
    some_same xs ys e = ap (λ (o : Option (List (List Row))). unwrap_or o xs) e

pub none_made : (parts : RuleParts) (inside : Inside) (domains : Option Domains)
    (lists : List (List Row)) → inside.rows ≡ Some lists → MakesSet parts lists None →
    Holds inside parts domains → AreMade false inside parts domains
none_made parts inside None lists there made h =
    let no : Some lists ≡ None = sym there ∙ h.rows in
    absurd (cc)
none_made parts inside (Some d) lists there made h =
    let same : lists ≡ d.rows =
    ap (λ (o : Option (List (List Row))). unwrap_or o lists) (sym there ∙ h.rows) in (
      h,
      (
        made.0,
        subst (λ (l : List (List Row)). bad_domain parts.symbols l ≡ Some made.0) same made.1,
      ),
    )

-- the rules were made before
pub made_before : (parts : RuleParts) (inside : Inside) (domains : Option Domains) →
    is_some inside.set ≡ true → Holds inside parts domains → AreMade true inside parts domains
made_before parts inside domains there h = (h, by inside.set there h.set)
  where
    by : (set : Option RuleParts) → is_some set ≡ true → IsSet set parts domains →
        unwrap_or set parts ≡ used parts domains
    by None there is = absurd (cc)
    by (Some set) there is = is

-- the log has no domains
pub no_domains_made : (parts : RuleParts) (inside : Inside) (domains : Option Domains) →
    is_some inside.set ≡ false → inside.rows ≡ None → Holds inside parts domains →
    AreMade true inside parts domains
no_domains_made parts inside None without there h = (h, by inside.set without)
  where
    by : (set : Option RuleParts) → is_some set ≡ false → unwrap_or set parts ≡ parts
    by None without = refl
    by (Some set) without = absurd (cc)
no_domains_made parts inside (Some d) without there h =
    let no : None ≡ Some d.rows = sym there ∙ h.rows in
    absurd (cc)

-- ---- a step over the rules with the domains

not_empty : (steps : List Step) (step : Step) → steps ++ step ∷ [] ≡ [] → ⊥
not_empty [] step e = cc
not_empty (x ∷ xs) step e = cc

module _ (parts : RuleParts) (goal : Equation) (domains : Option Domains) (steps : List Step)
    (step : Step) (old : Proof)
  where
    came : (flag : Bool) → old.is_unlawful ≡ flag → Goes old parts goal domains steps →
        Comes flag old.reached parts goal domains steps
    came flag e h =
        subst (λ (b : Bool). Comes b old.reached parts goal domains steps) e h.comes

    pub made_goes : (inside : Inside) (reached : Reached) → old.is_unlawful ≡ false →
        AreMade true inside parts domains →
        (Arrives old.reached (unwrap_or inside.set parts) goal steps →
        Arrives reached (unwrap_or inside.set parts) goal (steps ++ step ∷ [])) →
        Goes old parts goal domains steps →
        Goes (record { inside = inside; is_unlawful = old.is_unlawful; reached = reached }) parts goal
        domains (steps ++ step ∷ [])
    made_goes inside reached lawful made arrives h = record {
      holds = made.0;
      comes =
          subst (λ (b : Bool). Comes b reached parts goal domains (steps ++ step ∷ [])) (sym lawful)
          (subst (λ (p : RuleParts). Arrives reached p goal (steps ++ step ∷ [])) made.1
          (arrives (subst (λ (p : RuleParts). Arrives old.reached p goal steps) (sym made.1)
          (came false lawful h))));
    }

    pub unlawful_goes : (inside : Inside) → AreMade false inside parts domains →
        Goes (record { inside = inside; is_unlawful = true; reached = old.reached }) parts goal
        domains (steps ++ step ∷ [])
    unlawful_goes inside made = record {
      holds = made.0;
      comes = (not_empty steps step, made.1);
    }

    pub still_unlawful : old.is_unlawful ≡ true → Goes old parts goal domains steps →
        Goes old parts goal domains (steps ++ step ∷ [])
    still_unlawful is h = record {
      holds = h.holds;
      comes =
          subst (λ (b : Bool). Comes b old.reached parts goal domains (steps ++ step ∷ [])) (sym is)
          (not_empty steps step, (came true is h).1);
    }

-- before any step the domains are no matter
pub begins : (proof : Proof) (parts : RuleParts) (goal : Equation) (domains : Option Domains)
    (steps : List Step) → steps ≡ [] → IsFresh proof goal →
    proof.inside.rows ≡ rows_of domains → Goes proof parts goal domains steps
begins proof parts goal domains steps none fresh rows = record {
  holds = record {
    rows = rows;
    set = subst (λ (s : Option RuleParts). IsSet s parts domains) (sym fresh.set) tt;
  };
  comes =
      subst (λ (b : Bool). Comes b proof.reached parts goal domains steps) (sym fresh.lawful)
      (subst (λ (b : Bool). Decides b proof.reached.state (used parts domains) goal steps)
      (sym fresh.good)
      (subst (λ (s : State). Decides false s (used parts domains) goal steps) (sym fresh.state)
      (λ more. subst (λ (l : List Step). after_steps (used parts domains) 0 (start goal) (l ++ more)
      ≡ after_steps (used parts domains) (length l) (start goal) more) (sym none) refl)));
}

-- ---- lists of steps

before_next : (xs : List Step) (x : Step) (n : ℕ) → length xs < n →
    take n (xs ++ x ∷ []) ≡ take n xs ++ x ∷ []
before_next xs x n h =
    take_all n (xs ++ x ∷ []) (omega (arith, length-append xs (x ∷ [])))
    ∙ ap (λ (l : List Step). l ++ x ∷ []) (sym (take_all n xs (omega arith)))

first_last : (xs : List Step) (x : Step) →
    take 1 (drop (length xs) (xs ++ x ∷ [])) ≡ x ∷ []
first_last [] x = refl
first_last (y ∷ xs) x = first_last xs x

first_earlier : (xs : List Step) (x : Step) (n : ℕ) → n < length xs →
    take 1 (drop n (xs ++ x ∷ [])) ≡ take 1 (drop n xs)
first_earlier [] x n h = absurd (omega arith)
first_earlier (y ∷ xs) x zero h = refl
first_earlier (y ∷ xs) x (suc n) h = first_earlier xs x n (omega arith)

-- there is no such step yet
none_yet : (xs : List Step) (n : ℕ) → length xs ≤ n → take 1 (drop n xs) ≡ []
none_yet xs n h = ap (take 1) (drop_all n xs h)

-- ---- lines

module _ (parts : RuleParts) (goal : Equation) (number : ℕ) (log : Log) (old : Follower)
    (h : Follows old parts goal number log) (step : Step)
  where
    all_steps : old.steps + 1 ≡ length (log.steps ++ step ∷ [])
    all_steps = omega (arith, h.steps, length-append log.steps (step ∷ []))

    some : (proof : Proof) → log.steps ++ step ∷ [] ≡ [] → IsFresh proof goal
    some proof e = absurd (not_empty log.steps step e)

    pub step_before : (new : Proof) → old.steps < old.number →
        ((domains : Option Domains) (steps : List Step) → Goes old.proof parts goal domains steps →
        Goes new parts goal domains (steps ++ step ∷ [])) →
        FollowsNext (record old { proof = new }) parts goal number (pushed (line.Step step) log)
    step_before new early goes =
        let short : length log.steps < number = omega (arith, early, h.steps, h.numbered) in
        let more : length (log.steps ++ step ∷ []) ≤ number =
        omega (arith, short, length-append log.steps (step ∷ [])) in
        record {
          numbered = h.numbered;
          fronts = h.fronts;
          covers = h.covers;
          steps = all_steps;
          fresh = some new;
          goes =
              subst (λ (l : List Step). Goes new parts goal log.domains l)
              (sym (before_next log.steps step number short))
              (goes log.domains (steps_before number log) h.goes);
          step =
              h.step ∙ none_yet log.steps number (omega (arith, short))
              ∙ sym (none_yet (log.steps ++ step ∷ []) number more);
          table = h.table;
        }

    pub step_found : (found : List Step) → found ≡ old.step ++ step ∷ [] → old.steps ≡ old.number →
        FollowsNext (record old { step = found }) parts goal number (pushed (line.Step step) log)
    step_found found is here =
        let same : number ≡ length log.steps = omega (arith, here, h.steps, h.numbered) in
        record {
          numbered = h.numbered;
          fronts = h.fronts;
          covers = h.covers;
          steps = all_steps;
          fresh = some old.proof;
          goes =
              subst (λ (l : List Step). Goes old.proof parts goal log.domains l)
              (sym (take-append-le number log.steps (step ∷ []) (omega (arith, same)))) h.goes;
          step =
              is ∙ ap (λ (l : List Step). l ++ step ∷ [])
              (h.step ∙ none_yet log.steps number (omega (arith, same)))
              ∙ sym (first_last log.steps step)
              ∙ ap (λ (n : ℕ). take 1 (drop n (log.steps ++ step ∷ []))) (sym same);
          table = h.table;
        }

    pub step_past : old.number < old.steps →
        FollowsNext old parts goal number (pushed (line.Step step) log)
    step_past late =
        let within : number < length log.steps = omega (arith, late, h.steps, h.numbered) in
        record {
          numbered = h.numbered;
          fronts = h.fronts;
          covers = h.covers;
          steps = all_steps;
          fresh = some old.proof;
          goes =
              subst (λ (l : List Step). Goes old.proof parts goal log.domains l)
              (sym (take-append-le number log.steps (step ∷ []) (omega (arith, within)))) h.goes;
          step = h.step ∙ sym (first_earlier log.steps step number within);
          table = h.table;
        }

-- ---- lines about domains

abbrev fronts_at : ℕ → ℕ → Fronts
fronts_at keeps covers = record { keeps = keeps; covers = covers }

two : (first second keeps covers : ℕ) → first ≡ keeps → second ≡ covers →
    fronts_at first second ≡ fronts_at keeps covers
two first second keeps covers e f =
    ap (λ (n : ℕ). fronts_at n second) e ∙ ap (λ (n : ℕ). fronts_at keeps n) f

rows_more : (d : Option Domains) (rows : List Row) →
    option_map after_domain (option_map after_domains d)
    ≡ option_map after_domains (option_map (with_domain rows) d)
rows_more None rows = refl
rows_more (Some d) rows =
    let l : length (d.rows ++ rows ∷ []) ≡ length d.rows + 1 = length-append d.rows (rows ∷ []) in
    let e : fronts_at (2 + length d.rows + 1) (2 + length d.rows + length d.keeps + 1)
    ≡ fronts_at (2 + length (d.rows ++ rows ∷ [])) (2 + length (d.rows ++ rows ∷ []) + length d.keeps) =
    two _ _ _ _ (omega (arith, l)) (omega (arith, l)) in
    ap (λ (fronts : Fronts). Some fronts) e

keeps_more : (d : Option Domains) (certs : List Cert) →
    option_map after_keep (option_map after_domains d)
    ≡ option_map after_domains (option_map (with_keep certs) d)
keeps_more None certs = refl
keeps_more (Some d) certs =
    let l : length (d.keeps ++ certs ∷ []) ≡ length d.keeps + 1 = length-append d.keeps (certs ∷ []) in
    let e : fronts_at (2 + length d.rows) (2 + length d.rows + length d.keeps + 1)
    ≡ fronts_at (2 + length d.rows) (2 + length d.rows + length (d.keeps ++ certs ∷ [])) =
    two _ _ _ _ refl (omega (arith, l)) in
    ap (λ (fronts : Fronts). Some fronts) e

pushed_rows : (d : Option Domains) (rows : List Row) →
    option_map (λ (lists : List (List Row)). lists ++ rows ∷ []) (rows_of d)
    ≡ rows_of (option_map (with_domain rows) d)
pushed_rows None rows = refl
pushed_rows (Some d) rows = refl

-- certificates that the domains are kept change no domain
kept_set : (set : Option RuleParts) (parts : RuleParts) (d : Domains) (certs : List Cert) →
    IsSet set parts (Some d) → IsSet set parts (Some (with_keep certs d))
kept_set None parts d certs is = tt
kept_set (Some set) parts d certs is = is

kept_comes : (unlawful : Bool) (reached : Reached) (parts : RuleParts) (goal : Equation)
    (d : Domains) (steps : List Step) (certs : List Cert) →
    Comes unlawful reached parts goal (Some d) steps →
    Comes unlawful reached parts goal (Some (with_keep certs d)) steps
kept_comes false reached parts goal d steps certs comes = comes
kept_comes true reached parts goal d steps certs comes = comes

keep_goes : (proof : Proof) (parts : RuleParts) (goal : Equation) (d : Option Domains)
    (steps : List Step) (certs : List Cert) → Goes proof parts goal d steps →
    Goes proof parts goal (option_map (with_keep certs) d) steps
keep_goes proof parts goal None steps certs h = h
keep_goes proof parts goal (Some d) steps certs h = record {
  holds = record {
    rows = h.holds.rows;
    set = kept_set proof.inside.set parts d certs h.holds.set;
  };
  comes = kept_comes proof.is_unlawful proof.reached parts goal d steps certs h.comes;
}

module _ (parts : RuleParts) (goal : Equation) (number : ℕ) (log : Log) (old : Follower)
    (h : Follows old parts goal number log)
  where
    none_before : log.steps ≡ [] → steps_before number log ≡ []
    none_before e =
        ap (λ (l : List Step). take number l) e ∙ take_all number [] (omega arith)

    still_fresh : (lists : Option (List (List Row))) → IsFresh old.proof goal →
        IsFresh (record old.proof { inside = record old.proof.inside { rows = lists } }) goal
    still_fresh lists f =
        record { set = f.set; lawful = f.lawful; good = f.good; state = f.state }

    -- before any step other domains are kept
    other_domains : (fronts : Option Fronts) (lists : Option (List (List Row)))
        (domains : Option Domains) → log.steps ≡ [] →
        fronts ≡ option_map after_domains domains → lists ≡ rows_of domains →
        Follows (record old {
          proof = record old.proof { inside = record old.proof.inside { rows = lists } };
          fronts = fronts;
        }) parts goal number (record log { domains = domains })
    other_domains fronts lists domains none at rows = record {
      numbered = h.numbered;
      fronts = at;
      covers = h.covers;
      steps = h.steps;
      fresh = λ e. still_fresh lists (h.fresh e);
      goes =
          begins (record old.proof { inside = record old.proof.inside { rows = lists } }) parts goal
          domains (steps_before number log) (none_before none) (still_fresh lists (h.fresh none))
          rows;
      step = h.step;
      table = h.table;
    }

    pub header_follows : log.steps ≡ [] →
        Follows (record old {
          proof = record old.proof { inside = record old.proof.inside { rows = Some [] } };
          fronts = Some after_header;
        }) parts goal number (pushed line.Header2 log)
    header_follows none =
        other_domains (Some after_header) (Some []) (Some no_domains) none refl refl

    pub domain_follows : (rows : List Row) → log.steps ≡ [] →
        Follows (record old {
          proof = record old.proof {
            inside = record old.proof.inside {
              rows = option_map (λ (lists : List (List Row)). lists ++ rows ∷ [])
                  old.proof.inside.rows;
            };
          };
          fronts = option_map after_domain old.fronts;
        }) parts goal number (pushed (line.Domain rows) log)
    domain_follows rows none =
        other_domains _ _ _ none
        (ap (option_map after_domain) h.fronts ∙ rows_more log.domains rows)
        (ap (option_map (λ (lists : List (List Row)). lists ++ rows ∷ [])) h.goes.holds.rows
        ∙ pushed_rows log.domains rows)

    pub keep_follows : (certs : List Cert) →
        Follows (record old { fronts = option_map after_keep old.fronts }) parts goal number
        (pushed (line.Keep certs) log)
    keep_follows certs = record {
      numbered = h.numbered;
      fronts = ap (option_map after_keep) h.fronts ∙ keeps_more log.domains certs;
      covers = h.covers;
      steps = h.steps;
      fresh = h.fresh;
      goes =
          keep_goes old.proof parts goal log.domains (steps_before number log) certs h.goes;
      step = h.step;
      table = h.table;
    }

-- ---- the end

module _ (parts : RuleParts) (goal : Equation) (number : ℕ) (log : Log) (old : Follower)
    (h : Follows old parts goal number log)
  where
    came_to : (flag : Bool) → old.proof.is_unlawful ≡ flag →
        Comes flag old.proof.reached parts goal log.domains (steps_before number log)
    came_to flag e =
        subst (λ (b : Bool).
        Comes b old.proof.reached parts goal log.domains (steps_before number log)) e
        h.goes.comes

    arrived : (flag : Bool) → old.proof.is_unlawful ≡ false →
        old.proof.reached.is_refused ≡ flag →
        Decides flag old.proof.reached.state (used parts log.domains) goal (steps_before number log)
    arrived flag lawful e =
        subst (λ (b : Bool). Decides b old.proof.reached.state (used parts log.domains) goal
        (steps_before number log)) e (came_to false lawful)

    pub ends_unlawful : old.proof.is_unlawful ≡ true → Concludes parts goal log number None
    ends_unlawful is = inl (came_to true is)

    pub ends_refused : old.proof.is_unlawful ≡ false → old.proof.reached.is_refused ≡ true →
        Concludes parts goal log number None
    ends_refused lawful is =
        inr (refused_before parts goal number log old.proof.reached.state
        (arrived true lawful is))

    pub ends_at : (fronts : Fronts) (line : ℕ) → fronts ≡ unwrap_or old.fronts after_header →
        line ≡ fronts.covers + old.covers + min old.number old.steps →
        old.proof.is_unlawful ≡ false → old.proof.reached.is_refused ≡ false →
        Concludes parts goal log number
        (Some (record {
          fronts = fronts;
          line = line;
          state = old.proof.reached.state;
          step = old.step;
          table = old.table;
          domains = old.proof.inside.rows;
        }))
    ends_at fronts line begin is lawful good =
        let f : fronts ≡ fronts_of log =
        begin ∙ ap (λ (some : Option Fronts). unwrap_or some after_header) h.fronts in
        record {
          fronts = f;
          line =
              let e : length (steps_before number log) ≡ min number (length log.steps) =
              length-take number log.steps in
              let g : fronts.covers ≡ (fronts_of log).covers =
              ap (λ (at : Fronts). at.covers) f in
              omega (arith, is, g, e, h.covers, h.steps, h.numbered);
          state =
              reached (used parts log.domains) goal (steps_before number log)
              old.proof.reached.state (arrived false lawful good);
          step = h.step;
          table = h.table;
          domains = h.goes.holds.rows;
        }
