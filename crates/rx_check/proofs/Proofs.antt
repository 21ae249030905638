-- An accepted log is a proof: what its checks show, one by one.
use Rattle.std.proofs.Common.{◌≡◌, true, ℕ, Option, Some, None, Ok, Err, List, [], ◌∷◌, ◌++◌, refl, sym, ap, subst, ◌∙◌, ℤ, All}
use Rattle.std.proofs.lemmas.List.Elements.{All-nil}
use Rattle.rx_row.specs.Holds.{AllHold}
use Rattle.rx_rewriting.specs.Premises.{HaveConvertibleNormalForms}
use Rattle.rx_rewriting.specs.Steps.{IsSingleValued, Reaches}
use Rattle.rx_rewriting.specs.Terms.{Ground}
use Rattle.rx_rewriting.proofs.UniqueResults.{convertible_results_equal}
use Rattle.rx_term.specs.Domains.{are_domains}
use Rattle.rx_term.specs.Meaning.{Instance, ground_at}
use Rattle.rx_term.specs.WellMade.{IsWellMade}
use Rattle.rx_term.proofs.RuleLaws.{results_rest}
use Rattle.rx_term.specs.declared.rule.Equation.{Equation}
use Rattle.rx_term.specs.declared.rule.Rule.{Rule}
use Rattle.rx_term.specs.declared.rule_set.RuleParts.{RuleParts}
use Rattle.rx_cover.specs.Covering.{Covering, Covers, Fails, PassesLimits, covering}
use Rattle.rx_domain.specs.Keeping.{Keeping, Keeps, keeping}
use Rattle.rx_domain.specs.Keeping as keep
use Rattle.rx_domain.specs.Setting.{bad_domain, with_domains}
use Rattle.rx_domain.specs.declared.domains.Domains.{Domains}
use Rattle.rx_domain.proofs.SettingLaws.{fits_too, good_domains, well_made_too}
use Rattle.rx_pairs.specs.Inside.{descends_in}
use Rattle.rx_pairs.specs.Lowering.{Descends, Descent, NotLower}
use Rattle.rx_pairs.specs.Lowering as lowering
use Rattle.rx_pairs.specs.Pairs.{HasRoot}
use Rattle.rx_pairs.specs.Ranks.{bad_rank}
use Rattle.rx_proofs.specs.Goals.{Fitting, IsFitting}
use Rattle.rx_proofs.specs.Runs.{IsKept, IsProof, NoDomains, Run, Shown, finished, start}
use Rattle.rx_proofs.proofs.Runs.{proof_ends_alike}
use Rattle.rx_log.specs.Acceptance.{Accepted, Checked, IsAccepted, ◌>>=◌, after_steps, kept, kept_over, of_descent, once_covered, once_finished, once_inside, once_kept, once_lawful, once_ranked, used}
use Rattle.rx_log.specs.Acceptance as acceptance
use Rattle.rx_log.specs.declared.log.Log.{Log}
use Rattle.rx_check.specs.LineByLine.{passed}
use Rattle.rx_check.specs.Results.{EndEqual}
use Rattle.rx_proofs.proofs.Rooted.{run_rooted}
use Rattle.rx_check.proofs.Kept.{steps_run}

-- ---- back from the checks

covered_back : {A : Type 0} (found : Covering) (next : Checked A) (x : A) →
    once_covered found next ≡ Ok x
    → (found ≡ Covers) × (next ≡ Ok x)
covered_back Covers next x e = (refl, e)
covered_back (Fails f) next x e = absurd cc
covered_back (PassesLimits f) next x e = absurd cc

finished_back : {A : Type 0} (goals : List Equation) (next : Checked A) (x : A) →
    once_finished goals next ≡ Ok x
    → (goals ≡ []) × (next ≡ Ok x)
finished_back [] next x e = (refl, e)
finished_back (goal ∷ goals) next x e = absurd cc

ranked_back : {A : Type 0} (bad : Option ℕ) (next : Checked A) (x : A) → once_ranked bad next ≡ Ok x
    → (bad ≡ None) × (next ≡ Ok x)
ranked_back None next x e = (refl, e)
ranked_back (Some f) next x e = absurd cc

first_back : {A B : Type 0} (check : Checked A) (next : A → Checked B) (y : B) → (check >>= next) ≡
    Ok y
    → (x : A) × (check ≡ Ok x) × (next x ≡ Ok y)
first_back (Ok x) next y e = (x, refl, e)
first_back (Err fault) next y e = absurd cc

-- what the checks before that of the pairs show
pub record Checks (parts : RuleParts) (goal : Equation) (log : Log) (hypotheses : List Rule) : Type
    0 where
  pub covers : covering parts log.covers ≡ Covers
  pub run : Run parts (finished hypotheses) (start goal)
  pub lawful : bad_rank parts log.table ≡ None

pub kept_checks : (parts : RuleParts) (goal : Equation) (log : Log) (hypotheses : List Rule)
    → kept_over parts goal log ≡ Ok hypotheses → Checks parts goal log hypotheses
kept_checks parts goal log hypotheses e =
    let one = covered_back (covering parts log.covers) _ hypotheses e in
    let (end, steps, ends) = first_back (after_steps parts 0 (start goal) log.steps) _ hypotheses
    one.1 in
    let two = finished_back end.goals _ hypotheses ends in
    let three = ranked_back (bad_rank parts log.table) _ hypotheses two.1 in
    let same : end.hypotheses ≡ hypotheses = cc in
    let is : end ≡ finished hypotheses = (λ i. record { goals = two.0 i; hypotheses = same i }) in
    record {
      covers = one.0;
      run =
          subst (λ final. Run parts final (start goal)) is
          (steps_run parts end 0 (start goal) log.steps steps);
      lawful = three.0;
    }

-- lawful domains that are kept, and the rest
inside_back : {A : Type 0} (parts : RuleParts) (goal : Equation) (domains : Option Domains)
    (check : Checked A) (x : A) → once_inside parts goal domains check ≡ Ok x
    → (once_inside parts goal domains passed ≡ passed) × (check ≡ Ok x)
inside_back parts goal None check x e = (refl, e)
inside_back {A} parts goal (Some domains) check x e =
    by_both (bad_domain parts.symbols domains.rows)
    (keeping (with_domains parts domains.rows) goal domains.keeps) e
  where
    by_both : (bad : Option ℕ) (found : Keeping) → once_lawful bad (once_kept found check) ≡ Ok x
        → (once_lawful bad (once_kept found passed) ≡ passed) × (check ≡ Ok x)
    by_both None Keeps e = (refl, e)
    by_both None (keep.Fails k) e = absurd cc
    by_both None (keep.PassesLimits k) e = absurd cc
    by_both (Some f) found e = absurd cc

domains_back : (bad : Option ℕ) (found : Keeping) → once_lawful bad (once_kept found passed) ≡ passed
    → (bad ≡ None) × (found ≡ Keeps)
domains_back None Keeps e = (refl, refl)
domains_back None (keep.Fails k) e = absurd cc
domains_back None (keep.PassesLimits k) e = absurd cc
domains_back (Some f) found e = absurd cc

-- the hypotheses that are kept have roots
pub kept_have_roots : (parts : RuleParts) (goal : Equation) (log : Log) (hypotheses : List Rule)
    → kept parts goal log ≡ Ok hypotheses → All HasRoot hypotheses
kept_have_roots parts goal log hypotheses e =
    let parts_now = used parts log.domains in
    let inside = inside_back parts goal log.domains (kept_over parts_now goal log) hypotheses e in
    run_rooted parts_now (finished hypotheses) (start goal)
    (kept_checks parts_now goal log hypotheses inside.1).run (All-nil HasRoot)

-- ---- accepted logs

descends_back : (found : Descent) → of_descent found ≡ Accepted → found ≡ Descends
descends_back Descends e = refl
descends_back (NotLower i) e = absurd cc
descends_back (lowering.PassesLimits i) e = absurd cc

module _ (parts : RuleParts) (goal : Equation) (log : Log) (made : IsWellMade parts)
    (plain : parts.domains ≡ []) (fits : IsFitting parts goal) where
  -- the rules with the domains of the log are well made, keep them, and fit the goal
  pub record Inside (o : Option Domains) : Type 0 where
    pub well : IsWellMade (used parts o)
    pub lawful : are_domains (used parts o).symbols (used parts o).domains ≡ true
    pub fitting : IsFitting (used parts o) goal
    pub keeps : IsKept (used parts o) goal

  all_inside : (o : Option Domains) → once_inside parts goal o passed ≡ passed → Inside o
  all_inside None e = record {
    well = made;
    lawful = ap (are_domains parts.symbols) plain;
    fitting = fits;
    keeps = NoDomains plain;
  }
  all_inside (Some domains) e =
      let both = domains_back (bad_domain parts.symbols domains.rows)
      (keeping (with_domains parts domains.rows) goal domains.keeps) e in
      record {
        well = well_made_too parts domains.rows made;
        lawful = good_domains parts.symbols domains.rows both.0;
        fitting = record {
          left = sym (fits_too parts domains.rows goal.left) ∙ fits.left;
          right = sym (fits_too parts domains.rows goal.right) ∙ fits.right;
        };
        keeps = Shown domains.keeps both.1;
      }

  -- the proof, with what the checks came to
  proof_of : (hypotheses : List Rule) → kept parts goal log ≡ Ok hypotheses
      → of_descent (descends_in (used parts log.domains) ((used parts log.domains).rules ++ hypotheses)
      log.table log.pairs) ≡ Accepted
      → IsProof (used parts log.domains) goal hypotheses log.table
  proof_of hypotheses e verdict =
      let parts_now = used parts log.domains in
      let inside = inside_back parts goal log.domains (kept_over parts_now goal log) hypotheses e in
      let checks = kept_checks parts_now goal log hypotheses inside.1 in
      let all = all_inside log.domains inside.0 in
      record {
        made = all.well;
        domains = all.lawful;
        fits = all.fitting;
        kept = all.keeps;
        trees = log.covers;
        covers = checks.covers;
        run = checks.run;
        lawful = checks.lawful;
        certs = log.pairs;
        descends = descends_back (descends_in parts_now (parts_now.rules ++ hypotheses) log.table
            log.pairs) verdict;
      }

  by_kept : (check : Checked (List Rule)) → kept parts goal log ≡ check
      → acceptance.concluded (used parts log.domains) log check ≡ Accepted
      → (hypotheses : List Rule) × (kept parts goal log ≡ Ok hypotheses) ×
      IsProof (used parts log.domains) goal hypotheses log.table
  by_kept (Ok hypotheses) e verdict = (hypotheses, e, proof_of hypotheses e verdict)
  by_kept (Err fault) e verdict = absurd cc

  pub accepted_proof : IsAccepted parts goal log
      → (hypotheses : List Rule) × (kept parts goal log ≡ Ok hypotheses) ×
      IsProof (used parts log.domains) goal hypotheses log.table
  accepted_proof accepted = by_kept (kept parts goal log) refl accepted

  -- what is said over the rules with domains is said over those without
  alike_back : (o : Option Domains) (s t : Ground)
      → HaveConvertibleNormalForms (Fitting (used parts o)) (Instance (used parts o).rules) s t
      → HaveConvertibleNormalForms (Fitting parts) (Instance parts.rules) s t
  alike_back None s t alike = alike
  alike_back (Some domains) s t alike = alike

  pub accepted_ends_alike : IsAccepted parts goal log → (a : ℕ → ℤ) → AllHold a goal.rows
      → HaveConvertibleNormalForms (Fitting parts) (Instance parts.rules) (ground_at a goal.left)
      (ground_at a goal.right)
  accepted_ends_alike accepted a holds =
      let (hypotheses, _, proof) = accepted_proof accepted in
      alike_back log.domains (ground_at a goal.left) (ground_at a goal.right)
      (proof_ends_alike (used parts log.domains) goal hypotheses log.table proof a holds)

  -- where the rules are single-valued, both sides reach one result
  pub accepted_ends_equal : IsAccepted parts goal log → IsSingleValued (Instance parts.rules) →
      (a : ℕ → ℤ)
      → AllHold a goal.rows → EndEqual (Instance parts.rules) (ground_at a goal.left)
      (ground_at a goal.right)
  accepted_ends_equal accepted single a holds =
      let rules = Instance parts.rules in
      let alike = accepted_ends_alike accepted a holds in
      let same = convertible_results_equal rules single (results_rest parts made) alike.left.end
      alike.right.end
      alike.left.is_result alike.right.is_result alike.convertible in
      record {
        end = alike.left.end;
        is_result = alike.left.is_result;
        left = alike.left.reached;
        right = subst (Reaches rules (ground_at a goal.right)) (sym same) alike.right.reached;
      }
