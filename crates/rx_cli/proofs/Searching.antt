-- What comes of both searches, by where they begin, how the stated one ends and what the wider one
-- finds.
use Rattle.std.proofs.Common.{◌≡◌, ◌∙◌, ℕ, Bool, true, false, Option, Some, None, Result, Ok, Err, List, [], map, refl, sym, ap, subst}
use Rattle.std.specs.Prelude.{IfOk, IfSome, option_map}
use Rattle.rx_plain.specs.declared.no_memory.NoMemory.{NoMemory}
use Rattle.rx_log.specs.Acceptance.{Accepted, IsAccepted, verdict_over}
use Rattle.rx_log.specs.Depth.{is_shallow_log}
use Rattle.rx_log.specs.declared.log.Log.{Log}
use Rattle.rx_logtext.specs.Logs.{IsLog}
use Rattle.rx_rank.specs.declared.kind.RankingKind.{RankingKind}
use Rattle.rx_rank.specs.declared.kind.RankingKind.TheVariants.{Plain}
use Rattle.rx_row.specs.declared.row.Row.{Row}
use Rattle.rx_moves.specs.Moves.{Move, move_of}
use Rattle.rx_search.specs.Beginning.{Over, Unranked, beginning, kind_begun, set_begun, set_of}
use Rattle.rx_domain.specs.declared.domains.Domains.{Domains}
use Rattle.rx_search.specs.Begun.{IsInside, rows_of}
use Rattle.rx_search.specs.Ends.{IsEnd}
use Rattle.rx_search.specs.Search.{Searched, Closed, Large, NoPlan, searched_from, unranked, visited}
use Rattle.rx_search.specs.declared.beginning.Inside.{Inside}
use Rattle.rx_search.specs.declared.search_end.SearchEnd.{SearchEnd}
use Rattle.rx_search.specs.declared.search_end.SearchEnd.TheVariants as search_end
use Rattle.rx_search.specs.Nodes.{IsProved}
use Rattle.rx_search.proofs.Closing.{accepted_bare}
use Rattle.rx_settle.specs.Reached.{IsReachedBy}
use Rattle.rx_inference.specs.declared.step.Step.{Step}
use Rattle.rx_wider.specs.Reached.{IsClosedNode}
use Rattle.rx_wider.specs.Wider.{wider}
use Rattle.rx_wider.specs.declared.node.Node.{Node}
use Rattle.rx_command.specs.declared.command.Effort.{Effort}
use Rattle.rx_report.specs.declared.answer.Answer.TheVariants.{Line, Proof}
use Rattle.rx_report.specs.declared.verdicts.Verdict.{Verdict}
use Rattle.rx_report.specs.declared.verdicts.Verdict.TheVariants as verdicts
use Rattle.rx_cli.specs.declared.problems.Problem.{Problem}
use Rattle.rx_cli.specs.Proofs.{OnSearched}
use Rattle.rx_cli.specs.Searches.{found_or, sought, with_wider}
use Rattle.rx_cli.specs.Steps.{IsFound, IsFoundOver, IsOver, IsSolution, SaysEnd, both_over, is_open, log_or, moves_of}
use Rattle.rx_term.specs.declared.rule.Equation.{Equation}
use Rattle.rx_term.specs.declared.rule.Rule.{Rule}
use Rattle.rx_term.specs.declared.rule_set.RuleParts.{RuleParts}

module _ (kind : RankingKind) (parts : RuleParts) (goal : Equation) (effort : Effort) where
  abbrev stated : Searched
  stated = visited kind parts goal effort.depth effort.budget

  abbrev found : Option (List Move)
  found = wider kind parts goal effort.depth effort.budget

  abbrev Ends : Searched → SearchEnd → Type 0
  Ends s end = IsEnd effort.depth effort.budget s end

  -- ---- what comes of both over a set

  -- the wider search finds a proof
  open_closed : (end : SearchEnd) (moves : List Move) → Ends stated end →
      is_open end ≡ true → Some moves ≡ found → both_over kind parts goal effort ≡ Closed moves
  open_closed search_end.NoRanks moves is opens finds = absurd cc
  open_closed (search_end.LargeRanks rows) moves is opens finds = absurd cc
  open_closed (search_end.NoPlan d) moves is opens finds =
      ap (λ (s : Searched). with_wider s found) is.0 ∙ ap (found_or NoPlan) (sym finds)
  open_closed (search_end.Spent visits) moves is opens finds = absurd cc
  open_closed (search_end.Large path rows) moves is opens finds =
      ap (λ (s : Searched). with_wider s found) is ∙ ap (found_or (Large path rows)) (sym finds)
  open_closed search_end.NoMemory moves is opens finds = absurd cc

  -- it finds none
  open_none : (end : SearchEnd) → Ends stated end → is_open end ≡ true →
      None ≡ found → Ends (both_over kind parts goal effort) end
  open_none search_end.NoRanks is opens none = absurd cc
  open_none (search_end.LargeRanks rows) is opens none = absurd cc
  open_none (search_end.NoPlan d) is opens none =
      (ap (λ (s : Searched). with_wider s found) is.0 ∙ ap (found_or NoPlan) (sym none), is.1)
  open_none (search_end.Spent visits) is opens none = absurd cc
  open_none (search_end.Large path rows) is opens none =
      ap (λ (s : Searched). with_wider s found) is ∙ ap (found_or (Large path rows)) (sym none)
  open_none search_end.NoMemory is opens none = absurd cc

  -- it doesn't follow
  pub not_open : (end : SearchEnd) → Ends stated end → is_open end ≡ false →
      Ends (both_over kind parts goal effort) end
  not_open search_end.NoRanks is opens = ap (λ (s : Searched). with_wider s found) is
  not_open (search_end.LargeRanks rows) is opens = ap (λ (s : Searched). with_wider s found) is
  not_open (search_end.NoPlan d) is opens = absurd cc
  not_open (search_end.Spent visits) is opens =
      (ap (λ (s : Searched). with_wider s found) is.0, is.1)
  not_open (search_end.Large path rows) is opens = absurd cc
  not_open search_end.NoMemory is opens = tt

  -- the stated search closes
  pub stated_closes : (moves : List Move) → stated ≡ Closed moves →
      both_over kind parts goal effort ≡ Closed moves
  stated_closes moves is = ap (λ (s : Searched). with_wider s found) is

  -- what the wider search makes of an end at which it follows
  pub followed : (end : SearchEnd) (made : Result (Option Log) NoMemory) → Ends stated end →
      is_open end ≡ true
      → IfOk made (λ o. option_map moves_of o ≡ found)
      → IfOk made (λ o. IfSome o (λ log. verdict_over parts goal log ≡ Accepted))
      → IfOk made (λ o. IfSome o (λ (log : Log). log.domains ≡ None))
      → IfOk made (λ o. IfSome o (λ log. is_shallow_log log ≡ true))
      → IsFoundOver kind parts goal effort (log_or end made)
  followed end (Ok None) is opens finds accepted bare shallow = open_none end is opens finds
  followed end (Ok (Some log)) is opens finds accepted bare shallow = record {
    closes = open_closed end (moves_of log) is opens finds;
    accepted = accepted;
    bare = bare;
    shallow = shallow;
  }
  followed end (Err e) is opens finds accepted bare shallow = tt

-- ---- from where a search begins

module _ (problem : Problem) (effort : Effort) where
  abbrev all : Searched
  all = sought problem.rules problem.goal effort.depth effort.budget

  -- both searches go over the set that the search begins with
  sought_over : (kind : RankingKind) (rows : Option (List (List Row)))
      → beginning problem.rules problem.goal ≡ Over kind rows
      → all ≡ both_over kind (set_of problem.rules rows) problem.goal effort
  sought_over kind rows from =
      ap (λ b. with_wider
      (searched_from b problem.rules problem.goal effort.depth effort.budget)
      (wider (kind_begun b) (set_begun problem.rules b) problem.goal effort.depth effort.budget))
      from

  none_wider : (noted : Bool) (some : Option (List Move)) →
      with_wider (unranked noted problem.goal) some ≡ unranked noted problem.goal
  none_wider false some = refl
  none_wider true some = refl

  -- there are no ranks
  pub nowhere_found : (noted : Bool) (end : SearchEnd)
      → beginning problem.rules problem.goal ≡ Unranked noted
      → IsEnd effort.depth effort.budget (unranked noted problem.goal) end
      → IsEnd effort.depth effort.budget all end
  nowhere_found noted end from is =
      let some : Option (List Move) =
      wider Plain problem.rules problem.goal effort.depth effort.budget in
      let at : all ≡ with_wider (unranked noted problem.goal) some =
      ap (λ b. with_wider
      (searched_from b problem.rules problem.goal effort.depth effort.budget)
      (wider (kind_begun b) (set_begun problem.rules b) problem.goal effort.depth effort.budget))
      from in
      subst (λ s. IsEnd effort.depth effort.budget s end) (sym (at ∙ none_wider noted some)) is

  -- over the rules as they are
  pub plain_found : (found : Result Log SearchEnd) → beginning problem.rules problem.goal ≡
      Over Plain None
      → IsFoundOver Plain problem.rules problem.goal effort found → IsFound problem effort all found
  plain_found (Ok log) from is = record {
    closes = sought_over Plain None from ∙ is.closes;
    accepted = accepted_bare problem.rules problem.goal log is.bare is.accepted;
    domains = (Plain, from ∙ ap (λ (d : Option Domains). Over Plain (rows_of d)) (sym is.bare));
    shallow = is.shallow;
  }
  plain_found (Err end) from is =
      subst (λ s. IsEnd effort.depth effort.budget s end) (sym (sought_over Plain None from)) is

  -- inside domains
  module _ (inside : Inside) (is : IsInside problem.rules problem.goal inside)
      (from : beginning problem.rules problem.goal ≡ Over inside.kind (Some inside.domains.rows))
    where
      inside_sought : all ≡ both_over inside.kind inside.rules problem.goal effort
      inside_sought = sought_over inside.kind (Some inside.domains.rows) from
          ∙ ap (λ set. both_over inside.kind set problem.goal effort) (sym is.set)

      pub inside_log : (log made : Log) → IsOver inside.kind inside.rules problem.goal effort log
          → made ≡ record log { domains = Some inside.domains }
          → IsAccepted problem.rules problem.goal made → is_shallow_log made ≡ true →
          IsSolution problem all made
      inside_log log made over same accepted shallow = record {
        closes = inside_sought ∙ over.closes
            ∙ ap (λ (log : Log). Closed (moves_of log)) (sym same);
        accepted = accepted;
        domains =
            (inside.kind, from ∙ ap (λ (l : Log). Over inside.kind (rows_of l.domains)) (sym same));
        shallow = shallow;
      }

      pub inside_end : (end : SearchEnd)
          → IsEnd effort.depth effort.budget (both_over inside.kind inside.rules problem.goal effort)
          end
          → IsEnd effort.depth effort.budget all end
      inside_end end ends =
          subst (λ s. IsEnd effort.depth effort.budget s end) (sym inside_sought) ends

-- ---- proofs

-- a closed node of the wider search is a proof
pub closed_proved : (kind : RankingKind) (parts : RuleParts) (goal : Equation) (node : Node)
    (steps : List Step)
    (hypotheses : List Rule) → IsClosedNode kind parts goal node → steps ≡ node.steps →
    hypotheses ≡ node.at.state.hypotheses → IsProved kind parts goal steps hypotheses
closed_proved kind parts goal node steps hypotheses is same kept =
    subst (λ (hs : List Rule). IsProved kind parts goal steps hs) (sym kept)
    (subst (λ (xs : List Step). IsProved kind parts goal xs node.at.state.hypotheses) (sym same)
    (record {
      reached =
          subst (λ goals. IsReachedBy parts goal node.steps
          (record { goals = goals; hypotheses = node.at.state.hypotheses })) is.closed
          is.is.reached;
      ranked = is.is.ranked;
    }))

-- ---- answers

module _ (problem : Problem) (effort : Effort) where
  -- a line that names the end
  end_said : (s : Searched) (end : SearchEnd) (verdict : Verdict) →
      IsEnd effort.depth effort.budget s end → SaysEnd end verdict →
      OnSearched problem effort s (Line verdict)
  end_said s search_end.NoRanks verdict is says =
      subst (λ (s : Searched). OnSearched problem effort s (Line verdict)) (sym is) (ap Line says)
  end_said s (search_end.LargeRanks rows) verdict is says =
      subst (λ (s : Searched). OnSearched problem effort s (Line verdict)) (sym is) (ap Line says)
  end_said s (search_end.NoPlan d) verdict is says =
      subst (λ (s : Searched). OnSearched problem effort s (Line verdict)) (sym is.0)
      (ap Line (says ∙ ap verdicts.Depth is.1))
  end_said s (search_end.Spent v) verdict is says =
      subst (λ (s : Searched). OnSearched problem effort s (Line verdict)) (sym is.0)
      (ap Line (says ∙ ap verdicts.Visits is.1))
  end_said s (search_end.Large path rows) verdict is says =
      subst (λ (s : Searched). OnSearched problem effort s (Line verdict)) (sym is) (ap Line says)
  end_said s search_end.NoMemory verdict is says = absurd says

  -- the text of the log that was found
  proof_said : (s : Searched) (log : Log) (text : List ℕ) → IsSolution problem s log →
      IsLog text log → OnSearched problem effort s (Proof text)
  proof_said s log text solves is =
      subst (λ (s : Searched). OnSearched problem effort s (Proof text)) (sym solves.closes) (
        text,
        record {
          log = log;
          accepted = solves.accepted;
          domains = solves.domains;
          steps = refl;
          is = is;
        },
        refl,
      )

  -- a log that is found is shallow
  pub found_shallow : (s : Searched) (found : Result Log SearchEnd) →
      IsFound problem effort s found → IfOk found (λ log. is_shallow_log log ≡ true)
  found_shallow s (Ok log) is = is.shallow
  found_shallow s (Err end) is = tt

  -- the answer by what is found
  pub said_of_log : (s : Searched) (made : Result Log SearchEnd) (log : Log) (text : List ℕ) →
      made ≡ Ok log → IsFound problem effort s made → IsLog text log →
      OnSearched problem effort s (Proof text)
  said_of_log s made log text same is text_is =
      proof_said s log text (subst (IsFound problem effort s) same is) text_is

  pub said_of_end : (s : Searched) (made : Result Log SearchEnd) (end : SearchEnd)
      (verdict : Verdict) → made ≡ Err end → IsFound problem effort s made →
      SaysEnd end verdict → OnSearched problem effort s (Line verdict)
  said_of_end s made end verdict same is says =
      end_said s end verdict (subst (IsFound problem effort s) same is) says
