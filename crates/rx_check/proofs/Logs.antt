-- Each proof is that of an accepted log.
use Rattle.std.proofs.Common.{◌≡◌, ℕ, ◌+◌, Option, Some, None, Ok, List, [], ◌∷◌, refl, sym, ap, subst, ◌∙◌}
use Rattle.rx_term.specs.declared.rule.Equation.{Equation}
use Rattle.rx_term.specs.declared.rule.Rule.{Rule}
use Rattle.rx_term.specs.declared.rule_set.RuleParts.{RuleParts}
use Rattle.rx_domain.specs.Keeping.{Keeping, keeping}
use Rattle.rx_domain.specs.Setting.{bad_domain, with_domains}
use Rattle.rx_domain.specs.declared.domains.Domains.{Domains}
use Rattle.rx_inference.specs.States.{State}
use Rattle.rx_inference.specs.declared.step.Step.{Step}
use Rattle.rx_pairs.specs.declared.table.RankTable.{RankTable}
use Rattle.rx_proofs.specs.Example.{alike, example, hypothesis, table}
use Rattle.rx_proofs.specs.Runs.{IsKept, IsProof, NoDomains, NoStep, OneMore, Run, Shown, finished, start}
use Rattle.rx_proofs.proofs.Example.{example_proof}
use Rattle.rx_log.specs.Acceptance.{Checked, Accepted, IsAccepted, ◌>>=◌, after_step, after_steps, concluded, kept, kept_by, kept_over, of_descent, once_covered, once_inside, once_kept, once_lawful, once_ranked, used}
use Rattle.rx_log.specs.declared.log.Log.{Log}
use Rattle.rx_row.specs.declared.row.Row.{Row}
use Rattle.rx_check.specs.LineByLine.{passed}
use Rattle.rx_check.proofs.DomainLines.{inside_passes, verdict_inside}

-- the steps of a run
steps_of : (parts : RuleParts) (end state : State) (k : ℕ) → Run parts end state
    → (steps : List Step) × (after_steps parts k state steps ≡ Ok end)
steps_of parts end _ k NoStep = ([], refl)
steps_of parts end _ k (OneMore state next step is run) =
    let (steps, later) = steps_of parts end next (k + 1) run in (
      step ∷ steps,
      ap (λ answer. after_step k answer >>= λ next.
          after_steps parts (k + 1) next steps) is ∙ later,
    )

module _ (parts : RuleParts) (goal : Equation) (hypotheses : List Rule) (ranks : RankTable)
    (domains : Option Domains) (passes : once_inside parts goal domains passed ≡ passed)
    (proof : IsProof (used parts domains) goal hypotheses ranks) where
  abbrev parts_now : RuleParts
  parts_now = used parts domains

  abbrev log_with : List Step → Log
  log_with steps = record {
    domains = domains;
    covers = proof.trees;
    steps = steps;
    table = ranks;
    pairs = proof.certs;
  }

  kept_with : (steps : List Step) → after_steps parts_now 0 (start goal) steps ≡
      Ok (finished hypotheses)
      → kept_over parts_now goal (log_with steps) ≡ Ok hypotheses
  kept_with steps is =
      ap (λ found. once_covered found (after_steps parts_now 0 (start goal) steps >>= kept_by parts_now
      ranks)) proof.covers
      ∙ ap (λ (check : Checked State). check >>= kept_by parts_now ranks) is
      ∙ ap (λ bad. once_ranked bad (Ok hypotheses)) proof.lawful

  pub proof_has_log : (log : Log) × (log.domains ≡ domains) × (kept parts goal log ≡ Ok hypotheses)
      × (log.table ≡ ranks) × IsAccepted parts goal log
  proof_has_log =
      let (steps, is) = steps_of parts_now (finished hypotheses) (start goal) 0 proof.run in
      let log = log_with steps in
      let keeps = kept_with steps is in (
        log,
        refl,
        inside_passes parts goal domains (kept_over parts_now goal log) passes ∙ keeps,
        refl,
        verdict_inside parts goal log domains refl passes Accepted
            (ap (concluded parts_now log) keeps ∙ ap of_descent proof.descends),
      )

-- without domains
pub plain_proof_has_log : (parts : RuleParts) (goal : Equation) (hypotheses : List Rule)
    (ranks : RankTable) → IsProof parts goal hypotheses ranks
    → (log : Log) × (log.domains ≡ None) × (kept parts goal log ≡ Ok hypotheses)
    × (log.table ≡ ranks) × IsAccepted parts goal log
plain_proof_has_log parts goal hypotheses ranks proof =
    proof_has_log parts goal hypotheses ranks None refl proof

-- with a domain for each symbol
pub inside_proof_has_log : (parts : RuleParts) (lists : List (List Row)) (goal : Equation)
    (hypotheses : List Rule) (ranks : RankTable) → parts.domains ≡ []
    → bad_domain parts.symbols lists ≡ None
    → IsProof (with_domains parts lists) goal hypotheses ranks
    → (log : Log) × (used parts log.domains ≡ with_domains parts lists)
    × (kept parts goal log ≡ Ok hypotheses) × (log.table ≡ ranks) × IsAccepted parts goal log
inside_proof_has_log parts lists goal hypotheses ranks plain good proof = by_kept proof.kept where
  by_kept : IsKept (with_domains parts lists) goal
      → (log : Log) × (used parts log.domains ≡ with_domains parts lists)
      × (kept parts goal log ≡ Ok hypotheses) × (log.table ≡ ranks) × IsAccepted parts goal log
  by_kept (NoDomains none) =
      let same : with_domains parts lists ≡ parts =
      ap (λ (all : List (List Row)). with_domains parts all) (none ∙ sym plain) in
      let (log, is, keeps, table, accepted) = plain_proof_has_log parts goal hypotheses ranks
      (subst (λ (p : RuleParts). IsProof p goal hypotheses ranks) same proof) in
      (log, ap (used parts) is ∙ sym same, keeps, table, accepted)
  by_kept (Shown certs shows) =
      let passes =
      ap (λ (bad : Option ℕ). once_lawful bad (once_kept (keeping (with_domains parts lists) goal
      certs) passed)) good
      ∙ ap (λ (found : Keeping). once_kept found passed) shows in
      let (log, is, keeps, table, accepted) = proof_has_log parts goal hypotheses ranks
      (Some (record { rows = lists; keeps = certs })) passes proof in
      (log, ap (used parts) is, keeps, table, accepted)

pub example_has_log : (log : Log) × (kept example alike log ≡ Ok (hypothesis ∷ [])) ×
    IsAccepted example alike log
example_has_log =
    let (log, _, keeps, _, accepted) = plain_proof_has_log example alike (hypothesis ∷ []) table
    example_proof in
    (log, keeps, accepted)
