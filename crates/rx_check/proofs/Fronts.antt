-- A whole log up to the line that begins its ranks: what fails there is the fault of the log, and
-- lawful ranks have the table's width.
use Rattle.std.proofs.Common.{◌≡◌, ◌∙◌, ap, sym, subst, refl, eqb, ℕ, ◌+◌, Bool, true, false, if◌then◌else◌, Option, Some, None, Ok, Err, List, [], ◌∷◌, length}
use Rattle.std.specs.List.{list_all}
use Rattle.std.proofs.lemmas.Bool.{eqb-true}
use Rattle.std.proofs.lemmas.List.Elements.{All-cons, All-nil}
use Rattle.rx_plain.proofs.Booleans.{and_first}
use Rattle.rx_poly.specs.Variables.{uses_below}
use Rattle.rx_poly.specs.declared.body.Body.{Body}
use Rattle.rx_cover.specs.declared.cover_tree.CoverTree.{CoverTree}
use Rattle.rx_domain.specs.declared.domains.Domains.{Domains}
use Rattle.rx_inference.specs.declared.step.Step.{Step}
use Rattle.rx_pairs.specs.Ranks.{bad_from, bad_rank, is_rank}
use Rattle.rx_pairs.specs.declared.pair_cert.PairCert.{PairCert}
use Rattle.rx_pairs.specs.declared.table.RankTable.{RankTable}
use Rattle.rx_term.specs.declared.rule.Equation.{Equation}
use Rattle.rx_term.specs.declared.rule_set.RuleParts.{RuleParts}
use Rattle.rx_term.specs.declared.rule_set.SymInfo.{SymInfo}
use Rattle.rx_log.specs.Acceptance.{Fails, HasVerdict, LogFault, once_ranked, used}
use Rattle.rx_log.specs.Acceptance as log_fault
use Rattle.rx_log.specs.Reading.{pushed}
use Rattle.rx_log.specs.declared.line.Line.TheVariants as line
use Rattle.rx_log.specs.declared.line_state.LineState.{LineState}
use Rattle.rx_log.specs.declared.line_state.LineState.TheVariants.{InRanks}
use Rattle.rx_log.specs.declared.log.Log.{Log}
use Rattle.rx_check.specs.Answers.{Answers, Told}
use Rattle.rx_check.specs.Replay.{LogStands, place_after}
use Rattle.rx_check.specs.Whole.{HasWidths, Replays, domains_alone, front_of, with_covers, with_pairs, with_ranks, with_steps}
use Rattle.rx_check.specs.declared.check_end.CheckEnd.{CheckEnd}
use Rattle.rx_check.specs.declared.check_end.CheckEnd.TheVariants as end
use Rattle.rx_check.specs.declared.replayer.Replayer.{Replayer}
use Rattle.rx_check.proofs.DomainLines.{verdict_inside}
use Rattle.rx_check.proofs.LineFaults.{fails_before, finished, kept_behind}
use Rattle.rx_check.proofs.LineTurns.{state_now}

-- ---- the log as its parts come

pub front_made : (log : Log) (covers : List (List CoverTree)) (steps : List Step) →
    covers ≡ log.covers → steps ≡ log.steps
    → pushed (line.Ranks log.table.columns)
    (with_steps (with_covers (domains_alone log.domains) covers) steps) ≡ front_of log
front_made log covers steps c s =
    ap (λ (cs : List (List CoverTree)). pushed (line.Ranks log.table.columns)
    (with_steps (with_covers (domains_alone log.domains) cs) steps)) c
    ∙ ap (λ (ss : List Step). pushed (line.Ranks log.table.columns)
    (with_steps (with_covers (domains_alone log.domains) log.covers) ss)) s

pub rest_made : (log : Log) (ranks : List (List Body)) (pairs : List PairCert) →
    ranks ≡ log.table.ranks → pairs ≡ log.pairs
    → pushed line.End (with_pairs (with_ranks (front_of log) ranks) pairs) ≡ log
rest_made log ranks pairs r p =
    ap (λ (rs : List (List Body)). with_pairs (with_ranks (front_of log) rs) pairs) r
    ∙ ap (λ (ps : List PairCert). with_pairs (with_ranks (front_of log) log.table.ranks) ps) p

-- ---- the first failure there

module _ (replayer : Replayer) (parts : RuleParts) (goal : Equation) (log : Log)
    (replays : Replays replayer parts goal (front_of log))
    (at : place_after replayer ≡ InRanks log.table.columns 0) where
  stands : (failure : Option CheckEnd) → replayer.failure ≡ failure →
      LogStands parts goal (InRanks log.table.columns 0) (front_of log) replayer.domains
      replayer.progress failure
  stands failure is =
      subst (λ (f : Option CheckEnd). LogStands parts goal (InRanks log.table.columns 0)
      (front_of log) replayer.domains replayer.progress f) is
      (subst (λ (p : LineState). LogStands parts goal p (front_of log) replayer.domains
      replayer.progress replayer.failure) at
      (subst (λ (l : Log). LogStands parts goal replayer.place l replayer.domains
      replayer.progress replayer.failure) replays.are replays.stands.holds))

  -- is that of the log
  pub failed_front : (e : CheckEnd) → replayer.failure ≡ Some e → Answers (Err e) parts goal log
  failed_front e is =
      let fails = stands (Some e) is in
      subst (λ (o : Option LogFault). Told o (λ fault. HasVerdict parts goal log (Fails fault)))
      (sym fails.names) (fails.fails log refl (refl, (refl, (refl, (log.table.ranks, refl)))))

  -- the domains don't change which ranks are lawful
  used_ranks : (o : Option Domains) → bad_rank parts log.table ≡ bad_rank (used parts o) log.table
  used_ranks None = refl
  used_ranks (Some domains) = refl

  -- where there is none, a rank that isn't lawful is
  pub bad_front : (f : ℕ) → replayer.failure ≡ None → Some f ≡ bad_rank parts log.table →
      Answers (Err (end.BadRanks f)) parts goal log
  bad_front f is bad =
      let inside = stands None is in
      let parts_now = used parts log.domains in
      let holds = inside.holds in
      verdict_inside parts goal log log.domains refl inside.inside (Fails (log_fault.BadRanks f))
      (fails_before parts_now goal log (log_fault.BadRanks f)
      (kept_behind parts_now goal log holds.known.0.covers replayer.progress.state
      (state_now parts_now goal (InRanks log.table.columns 0) (front_of log) replayer.progress
      holds)
      ∙ finished parts_now log.table replayer.progress.state holds.known.0.goals
      ∙ ap (λ (o : Option ℕ). once_ranked o (Ok replayer.progress.state.hypotheses))
      (sym (bad ∙ used_ranks log.domains))))

-- ---- widths

first_width : (width f : ℕ) (info : SymInfo) (rank : List Body) (ranks : List (List Body))
    (bad : Option ℕ) → (bad ≡ None → HasWidths width ranks) → (b : Bool)
    → is_rank width info.arity rank ≡ b → (if b then bad else Some f) ≡ None →
    HasWidths width (rank ∷ ranks)
first_width width f info rank ranks bad others true is e =
    All-cons (λ (r : List Body). length r ≡ width) rank ranks
    (eqb-true (length rank) width
    (and_first (eqb (length rank) width) (list_all (uses_below info.arity) rank) is)) (others e)
first_width width f info rank ranks bad others false is e = absurd cc

widths_from : (width f : ℕ) (infos : List SymInfo) (ranks : List (List Body)) →
    bad_from width f infos ranks ≡ None → HasWidths width ranks
widths_from width f [] [] e = All-nil (λ (r : List Body). length r ≡ width)
widths_from width f [] (rank ∷ ranks) e = absurd cc
widths_from width f (info ∷ infos) [] e = All-nil (λ (r : List Body). length r ≡ width)
widths_from width f (info ∷ infos) (rank ∷ ranks) e =
    first_width width f info rank ranks (bad_from width (f + 1) infos ranks)
    (widths_from width (f + 1) infos ranks) (is_rank width info.arity rank) refl e

-- lawful ranks have the table's width
pub lawful_widths : (parts : RuleParts) (table : RankTable) → None ≡ bad_rank parts table →
    HasWidths table.columns table.ranks
lawful_widths parts table good =
    widths_from table.columns 0 parts.symbols table.ranks (sym good)
