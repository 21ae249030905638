-- At a node that is closed no goal is left; and its log is accepted.
use Rattle.std.proofs.Common.{◌≡◌, ℕ, Option, Some, None, Result, Ok, Err, List, [], ◌++◌, map, refl, sym, ap, subst, ◌∙◌}
use Rattle.std.specs.Prelude.{IfOk}
use Rattle.rx_row.specs.declared.row.Row.{Row}
use Rattle.rx_term.specs.declared.rule.Equation.{Equation}
use Rattle.rx_term.specs.declared.rule.Rule.{Rule}
use Rattle.rx_term.specs.declared.rule_set.RuleParts.{RuleParts}
use Rattle.rx_inference.specs.States.{State}
use Rattle.rx_inference.specs.declared.step.Step.{Step}
use Rattle.rx_cover.specs.Covering.{Covers, covering}
use Rattle.rx_domain.specs.Keeping.{keeping}
use Rattle.rx_domain.specs.Setting.{with_domains}
use Rattle.rx_domain.specs.declared.domains.Domains.{Domains}
use Rattle.rx_pairs.specs.Inside.{descends_in}
use Rattle.rx_pairs.specs.Lowering.{Descends}
use Rattle.rx_pairs.specs.Ranks.{bad_rank}
use Rattle.rx_find_ranks.specs.Found.{LowersAll}
use Rattle.rx_find_ranks.specs.declared.ranking.Ranking.{Ranking}
use Rattle.rx_rank.specs.declared.kind.RankingKind.{RankingKind}
use Rattle.rx_log.specs.Acceptance.{Accepted, Checked, IsAccepted, ◌>>=◌, after_steps, concluded, kept_by, kept_over, of_descent, once_covered, once_inside, once_kept, once_lawful, once_ranked, used, verdict_over}
use Rattle.rx_log.specs.Acceptance as acceptance
use Rattle.rx_log.specs.declared.log.Log.{Log}
use Rattle.rx_moves.specs.Moves.{move_of}
use Rattle.rx_search.specs.Begun.{AreFound}
use Rattle.rx_search.specs.Calls.{node_of}
use Rattle.rx_search.specs.Nodes.{IsNode, IsProved}
use Rattle.rx_search.specs.NodeNodes as nodes
use Rattle.rx_search.specs.Search as search
use Rattle.rx_search.specs.NodeNodes.{is_closed}
use Rattle.rx_search.specs.Search.{menu, settled}
use Rattle.rx_search.specs.declared.node.Node.{Node}
use Rattle.rx_search.specs.declared.search_end.SearchEnd.{SearchEnd}
use Rattle.rx_search.proofs.Left.{no_goal}
use Rattle.rx_proofs.specs.Runs as joins
use Rattle.rx_settle.specs.Reached.{IsReachedBy}
use Rattle.rx_search.proofs.Running.{logged}
use Rattle.rx_deepening.proofs.ClosedLaws.{closed_told}
use Rattle.rx_deepening.specs.Outcomes.{outcome}
use Rattle.rx_deepening.specs.Views.{IfClosed, seen_outcome}
use Rattle.rx_deepening.specs.Visits.{all_visits}
use Rattle.rx_deepening.specs.declared.outcome.Outcome.{Outcome}
use Rattle.rx_deepening.specs.declared.outcome.Outcome.TheVariants as outcomes

-- ---- closed nodes

pub no_goal_left : (kind : RankingKind) (parts : RuleParts) (depth budget : ℕ)
    (first node : nodes.Node)
    → outcome budget (all_visits (settled parts)
    (menu kind parts) depth first) ≡ outcomes.Closed node →
    node.state.goals ≡ []
no_goal_left kind parts depth budget first node e =
    no_goal node.state.goals
    (closed_told (λ (n : nodes.Node). is_closed n.state.goals) (settled parts) (menu kind parts)
    (λ n. refl) depth budget first node e)

-- ---- of calls

pub closed_node : {R : Type 0} (P : Node → Type 0) (o : Outcome Node R) (node : Node) → o ≡
    outcomes.Closed node → IfClosed P o → P node
closed_node P o node is holds = subst (IfClosed P) is holds

pub closed_goals : (kind : RankingKind) (parts : RuleParts) (depth budget : ℕ) (first : nodes.Node)
    (o : Outcome Node (List Row)) (node : Node)
    → seen_outcome node_of o ≡ outcome budget (all_visits (settled parts)
    (menu kind parts) depth first)
    → o ≡ outcomes.Closed node → node.state.goals ≡ []
closed_goals kind parts depth budget first o node seen is =
    no_goal_left kind parts depth budget first (node_of node) (sym seen
    ∙ ap (seen_outcome node_of) is)

pub closed_steps : (kind : RankingKind) (parts : RuleParts) (depth budget : ℕ) (first : nodes.Node)
    (o : Outcome Node (List Row)) (node : Node) (steps : List Step)
    → seen_outcome node_of o ≡ outcome budget (all_visits (settled parts)
    (menu kind parts) depth first)
    → o ≡ outcomes.Closed node → steps ≡ node.steps
    → search.of_outcome (outcome budget (all_visits (settled parts)
    (menu kind parts) depth first)) ≡
    search.Closed (map move_of steps)
closed_steps kind parts depth budget first o node steps seen is same =
    ap search.of_outcome (sym seen ∙ ap (seen_outcome node_of) is) ∙
    ap (λ xs. search.Closed (map move_of xs)) (sym same)

-- ---- logs

-- a closed node is a proof
pub node_proved : (kind : RankingKind) (parts : RuleParts) (goal : Equation) (node : Node)
    (steps : List Step)
    (hypotheses : List Rule) → IsNode kind parts goal node → node.state.goals ≡ [] →
    steps ≡ node.steps → hypotheses ≡ node.state.hypotheses →
    IsProved kind parts goal steps hypotheses
node_proved kind parts goal node steps hypotheses is closed same kept =
    subst (λ (hs : List Rule). IsProved kind parts goal steps hs) (sym kept)
    (subst (λ (xs : List Step). IsProved kind parts goal xs node.state.hypotheses) (sym same)
    (record {
      reached =
          subst (λ goals. IsReachedBy parts goal node.steps
          (record { goals = goals; hypotheses = node.state.hypotheses })) closed is.reached;
      ranked = is.ranked;
    }))

module _ (kind : RankingKind) (parts : RuleParts) (goal : Equation) (made : List Step)
    (hypotheses : List Rule) (log : Log) (ranking : Ranking)
    (is : IsProved kind parts goal made hypotheses)
    (covers : covering parts log.covers ≡ Covers) (steps : log.steps ≡ made)
    (table : log.table ≡ ranking.table)
    (certs : log.pairs ≡ ranking.certs) (lowers : LowersAll parts hypotheses ranking) where
  keeps : kept_over parts goal log ≡ Ok hypotheses
  keeps =
      ap (λ found. once_covered found (after_steps parts 0 (acceptance.start goal) log.steps >>=
      kept_by parts log.table)) covers
      ∙ ap (λ xs. after_steps parts 0 (acceptance.start goal) xs >>= kept_by parts log.table) steps
      ∙ ap (λ (check : Checked State). check >>= kept_by parts log.table)
      (logged parts (joins.finished hypotheses) 0 (acceptance.start goal) made
      is.reached.applies)
      ∙ ap (λ t. once_ranked (bad_rank parts t) (Ok hypotheses)) table
      ∙ ap (λ bad. once_ranked bad (Ok hypotheses)) lowers.lawful

  descends : descends_in parts (parts.rules ++ hypotheses) log.table log.pairs ≡ Descends
  descends =
      (λ i. descends_in parts (parts.rules ++ hypotheses) (table i) (certs i)) ∙ lowers.lower

  -- the log of a proof is accepted
  pub accepted : verdict_over parts goal log ≡ Accepted
  accepted = ap (concluded parts log) keeps ∙ ap of_descent descends

-- ---- logs with domains

-- where these are found, a log that is accepted inside them is accepted with them
pub accepted_inside : (kind : RankingKind) (parts : RuleParts) (goal : Equation) (log made : Log)
    (domains : Domains)
    → made ≡ record log { domains = Some domains } → AreFound kind parts goal domains
    → verdict_over (with_domains parts domains.rows) goal log ≡ Accepted →
    IsAccepted parts goal made
accepted_inside kind parts goal log made domains same found is =
    let set : RuleParts = with_domains parts domains.rows in
    let kept : Checked (List Rule) = kept_over set goal log in
    subst (IsAccepted parts goal) (sym same)
    (ap (λ bad. concluded set log (once_lawful bad
    (once_kept (keeping set goal domains.keeps) kept))) found.lawful
    ∙ ap (λ keeps. concluded set log (once_kept keeps kept)) found.keeps ∙ is)

-- one without domains is accepted as over the rules as they are
pub accepted_bare : (parts : RuleParts) (goal : Equation) (log : Log) → log.domains ≡ None →
    verdict_over parts goal log ≡ Accepted → IsAccepted parts goal log
accepted_bare parts goal log none is =
    ap (λ (d : Option Domains). concluded (used parts d) log
    (once_inside parts goal d (kept_over (used parts d) goal log))) none ∙ is

-- so is what a call answers
pub bare_accepted : (parts : RuleParts) (goal : Equation) (found : Result Log SearchEnd)
    → IfOk found (λ log. verdict_over parts goal log ≡ Accepted)
    → IfOk found (λ (log : Log). log.domains ≡ None) → IfOk found (IsAccepted parts goal)
bare_accepted parts goal (Ok log) is none = accepted_bare parts goal log none is
bare_accepted parts goal (Err end) is none = tt
