-- What comes of a step, or of an expansion that keeps the goal, at a node.
use Rattle.std.proofs.Common.{◌≡◌, Bool, true, false, ◌&&◌, if◌then◌else◌, Option, Some, None, Result, Ok, Err, List, [], ◌∷◌, ◌++◌, refl, sym, ap, subst, ◌∙◌}
use Rattle.std.specs.Prelude.{IfOk, IfSome, nat_eq, slice_get}
use Rattle.std.specs.Option.{option_map}
use Rattle.std.proofs.lemmas.List.{append-nil, map-append}
use Rattle.std.proofs.lemmas.List.Elements.{All-append, All-cons, All-nil}
use Rattle.rx_plain.proofs.Booleans.{or_false, or_true}
use Rattle.rx_plain.specs.Formed.{Formed}
use Rattle.rx_cert.specs.Findings.{Said, Yes, No, Beyond}
use Rattle.rx_solve.specs.Attempts.{Tried, where_shown}
use Rattle.rx_term.specs.Meaning.{redex_of}
use Rattle.rx_term.specs.declared.rule.Equation.{Equation}
use Rattle.rx_term.specs.declared.rule.Rule.{Rule}
use Rattle.rx_term.specs.declared.rule_set.RuleParts.{RuleParts}
use Rattle.rx_term.specs.declared.term.Term.{Term}
use Rattle.rx_inference.specs.Forming.{Forming, found_or, limited, provided, ◌>>=◌}
use Rattle.rx_inference.specs.Judging.{first_rows}
use Rattle.rx_inference.specs.Kinds.{formed, formed_on}
use Rattle.rx_inference.specs.Making.{decomposed_by, expanded_by_all, generalised_by}
use Rattle.rx_inference.specs.Pieces.{TopFrame, have_one_shape, is_equation, is_substitution, side_of, top_frame}
use Rattle.rx_inference.specs.States.{State, taken}
use Rattle.rx_inference.specs.declared.form_end.FormEnd.TheVariants.{Large, NoGoal, NoSuchRule, WrongShape}
use Rattle.rx_inference.specs.declared.form_end.FormEnd.TheVariants as form_end
use Rattle.rx_plain.specs.declared.no_memory.NoMemory.{NoMemory}
use Rattle.rx_inference.specs.declared.formed_step.FormedStep.{FormedStep}
use Rattle.rx_inference.specs.declared.step.Side.{Side}
use Rattle.rx_inference.specs.declared.step.Step.{Step}
use Rattle.rx_rank.specs.Ranking.{ranked}
use Rattle.rx_rank.specs.declared.kind.RankingKind.{RankingKind}
use Rattle.rx_proofs.specs.Runs as runs
use Rattle.rx_settle.specs.Answers.{Takes}
use Rattle.rx_moves.specs.Moves.{Absurd, Decompose, EqDelete, Equal, Expand, Generalise, Hyp, Move, Postulate, Results, Simplify, Split, move_of, step_of}
use Rattle.rx_settle.specs.Settling.{most_moves}
use Rattle.rx_moves.specs.Trying.{Next, asked_shown, attempt, next_if_formed, noting, then_by, then_try}
use Rattle.rx_search.specs.Calls.{led, node_of, with_step}
use Rattle.rx_search.specs.Nodes.{IsNode, IsReached, IsTried, KeepsNone, if_ranked}
use Rattle.rx_search.specs.NodeNodes as nodes
use Rattle.rx_search.specs.NodeNodes.{node_with}
use Rattle.rx_rank.specs.declared.attempt.Attempt.{Attempt}
use Rattle.rx_search.specs.declared.node.Node.{Node}
use Rattle.rx_settle.proofs.ReachedLaws.{IsDeep, after_one}

-- ---- the node after a step

-- it is seen as the definition says
seen_after : (from : Node) (step : Step) (state : State)
    → node_of (with_step most_moves from step state) ≡ node_with most_moves (node_of from)
    (record { move = move_of step; state = state })
seen_after from step state =
    λ i. record {
      moves = map-append move_of from.steps (step ∷ []) i;
      state = state;
      left =
          most_moves;
    }

module _ (parts : RuleParts) (from : Node) (state : State) (tried : Tried Next) where
  pub led_by : (taken : Option Step) (noted : Bool) → noted ≡ tried.noted →
      Takes parts from.state state tried.made taken
      → IsTried from tried (led most_moves from taken noted state)
  led_by None noted same takes =
      let (made, _) = takes in
      record {
        made = ap (option_map (node_with most_moves (node_of from))) (sym made);
        noted = same;
      }
  led_by (Some step) noted same takes =
      let (made, _) = takes in
      record {
        made =
            ap Some (seen_after from step state) ∙
            ap (option_map (node_with most_moves (node_of from))) (sym made);
        noted = same;
      }

  -- and the node is reached
  pub reached_by : (goal : Equation) (taken : Option Step) (noted : Bool) →
      Takes parts from.state state tried.made taken → IsReached parts goal from
      → IfSome (led most_moves from taken noted state).made (IsReached parts goal)
  reached_by goal None noted takes reached = tt
  reached_by goal (Some step) noted takes reached =
      let (_, applies) = takes in
      record {
        made = reached.made;
        fits = reached.fits;
        applies =
            after_one parts (runs.start goal) from.state state from.steps step reached.applies
            applies.applies;
        deep =
            All-append IsDeep from.steps (step ∷ []) reached.deep
            (All-cons IsDeep step [] applies.deep (All-nil IsDeep));
      }

-- ---- where ranks are found

module _ (from : Node) (kind : RankingKind) (parts : RuleParts) where
  abbrev next_ranked : Next → Tried Next
  next_ranked next = where_shown (ranked kind parts next.state.hypotheses) next

  ranked_by : (node : Node) (noted : Bool) (next : Next) (said : Said) → node_of node ≡
      node_with most_moves (node_of from) next
      → IsTried from (noting noted (where_shown said next)) (if_ranked said node noted)
  ranked_by node noted next Yes same = record { made = ap Some same; noted = sym (or_false noted) }
  ranked_by node noted next No same = record { made = refl; noted = sym (or_false noted) }
  ranked_by node noted next Beyond same = record { made = refl; noted = sym (or_true noted) }

  then_ranked : (node : Node) (noted : Bool) (made : Option Next) → Some (node_of node) ≡
      option_map (node_with most_moves (node_of from)) made
      → IsTried from (then_by made noted next_ranked)
      (if_ranked (ranked kind parts node.state.hypotheses) node noted)
  then_ranked node noted None same = absurd cc
  then_ranked node noted (Some next) same =
      let seen : node_of node ≡ node_with most_moves (node_of from) next = cc in
      let state : node.state ≡ next.state = ap (λ (n : nodes.Node). n.state) seen in
      subst (λ (s : State). IsTried from (noting noted
      (where_shown (ranked kind parts s.hypotheses) next))
      (if_ranked (ranked kind parts node.state.hypotheses) node noted))
      state (ranked_by node noted next (ranked kind parts node.state.hypotheses) seen)

  -- the node that the expansion leads to, where ranks are found
  pub keeping_ranked : (tried : Tried Next) (found : Attempt Node) (node : Node) →
      IsTried from tried found → found.made ≡ Some node
      → IsTried from (then_try tried next_ranked)
      (if_ranked (ranked kind parts node.state.hypotheses) node found.noted)
  keeping_ranked tried found node is leads =
      let same : Some (node_of node) ≡ option_map (node_with most_moves (node_of from)) tried.made =
      ap (option_map node_of) (sym leads) ∙ is.made in
      subst (λ noted. IsTried from (then_by tried.made noted next_ranked)
      (if_ranked (ranked kind parts node.state.hypotheses) node found.noted))
      is.noted (then_ranked node found.noted tried.made same)

  none_by : (noted : Bool) (made : Option Next) → None ≡ option_map (node_with most_moves
      (node_of from)) made
      → IsTried from (then_by made noted next_ranked) (record { made = None; noted = noted })
  none_by noted None same = record { made = refl; noted = refl }
  none_by noted (Some next) same = absurd cc

  pub keeping_none : (tried : Tried Next) (found : Attempt Node) → IsTried from tried found →
      found.made ≡
      None
      → IsTried from (then_try tried next_ranked) (record { made = None; noted = found.noted })
  keeping_none tried found is leads =
      let same : None ≡ option_map (node_with most_moves (node_of from)) tried.made =
      ap (option_map node_of) (sym leads) ∙ is.made in
      subst (λ noted. IsTried from (then_by tried.made noted next_ranked)
      (record { made = None; noted = found.noted }))
      is.noted (none_by found.noted tried.made same)

-- such a node is one of the search
node_by : (kind : RankingKind) (parts : RuleParts) (goal : Equation) (node : Node) (noted : Bool)
    (said : Said) →
    ranked kind parts node.state.hypotheses ≡ said
    → IsReached parts goal node → IfSome (if_ranked said node noted).made (IsNode kind parts goal)
node_by kind parts goal node noted Yes is reached = record { reached = reached; ranked = is }
node_by kind parts goal node noted No is reached = tt
node_by kind parts goal node noted Beyond is reached = tt

pub node_ranked : (kind : RankingKind) (parts : RuleParts) (goal : Equation) (node : Node)
    (noted : Bool) →
    IsReached parts goal node
    → IfSome (if_ranked (ranked kind parts node.state.hypotheses) node noted).made
    (IsNode kind parts goal)
node_ranked kind parts goal node noted reached =
    node_by kind parts goal node noted (ranked kind parts node.state.hypotheses) refl reached

-- ---- of calls

pub keeping_ranked_call : (from : Node) (kind : RankingKind) (parts : RuleParts)
    (tried : Tried Next) (found : Attempt Node)
    (node : Node) → IsTried from tried found
    → found.made ≡ Some node → (result : Result (Attempt Node) NoMemory)
    → IfOk result (λ t. t ≡ if_ranked (ranked kind parts node.state.hypotheses) node found.noted)
    → IfOk result (IsTried from (then_try tried
    (λ (next : Next). where_shown (ranked kind parts next.state.hypotheses) next)))
keeping_ranked_call from kind parts tried found node is leads (Ok t) same =
    subst (IsTried from (then_try tried (λ (next : Next).
    where_shown (ranked kind parts next.state.hypotheses) next))) (sym same)
    (keeping_ranked from kind parts tried found node is leads)
keeping_ranked_call from kind parts tried found node is leads (Err e) same = tt

pub node_ranked_call : (kind : RankingKind) (parts : RuleParts) (goal : Equation) (node : Node)
    (noted : Bool) →
    IsReached parts goal node
    → (result : Result (Attempt Node) NoMemory) → IfOk result
    (λ t. t ≡ if_ranked (ranked kind parts node.state.hypotheses) node noted)
    → IfOk result (λ t. IfSome t.made (IsNode kind parts goal))
node_ranked_call kind parts goal node noted reached (Ok t) same =
    subst (λ (t : Attempt Node). IfSome t.made (IsNode kind parts goal)) (sym same)
    (node_ranked kind parts goal node noted reached)
node_ranked_call kind parts goal node noted reached (Err e) same = tt

-- what holds of the node, if there is one, holds of it
pub led_to : (found : Option Node) (node : Node) (P : Node → Type 0) → found ≡ Some node →
    IfSome found P → P node
led_to found node P is holds = subst (λ (found : Option Node). IfSome found P) is holds

-- ---- steps that keep nothing

limited_by : (f : Formed FormedStep) (y : FormedStep) (b : Bool) → f.within ≡ b → limited f ≡ Ok y →
    f.form ≡ y
limited_by f y true is e =
    let same : Ok f.form ≡ Ok y = sym (ap (λ b. if b then Ok f.form else Err Large) is) ∙ e in cc
limited_by f y false is e =
    let same : Err Large ≡ Ok y = sym (ap (λ b. if b then Ok f.form else Err Large) is) ∙ e in
    absurd cc

keeps_limited : (f : Formed FormedStep) (y : FormedStep) → f.form.kept ≡ [] → limited f ≡ Ok y →
    y.kept ≡ []
keeps_limited f y none e =
    ap (λ (s : FormedStep). s.kept) (sym (limited_by f y f.within refl e)) ∙ none

keeps_provided : (b : Bool) (f : Formed FormedStep) (y : FormedStep) → f.form.kept ≡ [] →
    provided b (limited f) ≡ Ok y → y.kept ≡ []
keeps_provided true f y none e = keeps_limited f y none e
keeps_provided false f y none e = absurd cc

expanded_keeps : (rules : List Rule) (goal : Equation) (side : Side) (f : FormedStep)
    (redex : Option Term)
    → (found_or WrongShape redex >>= λ t. limited (expanded_by_all rules goal side false t)) ≡
    Ok f → f.kept ≡ []
expanded_keeps rules goal side f None e = absurd cc
expanded_keeps rules goal side f (Some t) e =
    keeps_limited (expanded_by_all rules goal side false t) f refl e

decomposed_keeps : (goal : Equation) (f : FormedStep) (one other : Option TopFrame)
    → (found_or WrongShape one >>= λ a. (found_or WrongShape other >>= λ b.
    provided (nat_eq a.symbol b.symbol) (limited
    (decomposed_by goal a.arguments b.arguments a.inner b.inner)))) ≡ Ok f
    → f.kept ≡ []
decomposed_keeps goal f None other e = absurd cc
decomposed_keeps goal f (Some a) None e = absurd cc
decomposed_keeps goal f (Some a) (Some b) e =
    keeps_provided (nat_eq a.symbol b.symbol)
    (decomposed_by goal a.arguments b.arguments a.inner b.inner) f refl e

module _ (parts : RuleParts) (hypotheses : List Rule) where
  -- what is formed keeps nothing
  formed_keeps : (goal : Equation) (move : Move) (f : FormedStep) → KeepsNone move
      → formed_on parts goal hypotheses (step_of move) ≡ Ok f → f.kept ≡ []
  formed_keeps goal (Expand side true) f keeps e = absurd cc
  formed_keeps goal (Expand side false) f keeps e =
      expanded_keeps parts.rules goal side f (redex_of (side_of side goal)) e
  formed_keeps goal Decompose f keeps e =
      decomposed_keeps goal f (top_frame goal.left) (top_frame goal.right) e
  formed_keeps goal (Simplify side rule) f keeps e = absurd keeps
  formed_keeps goal (Hyp side place hyp subst) f keeps e = absurd keeps
  formed_keeps goal Absurd f keeps e = absurd keeps
  formed_keeps goal Equal f keeps e = absurd keeps
  formed_keeps goal EqDelete f keeps e = absurd keeps
  formed_keeps goal (Generalise next ws) f keeps e =
      keeps_provided
      (is_equation parts next && (is_substitution ws &&
      (have_one_shape next.left goal.left && have_one_shape next.right goal.right)))
      (generalised_by parts goal next ws) f refl e
  formed_keeps goal (Postulate next) f keeps e = absurd keeps
  formed_keeps goal (Split row) f keeps e = absurd keeps
  formed_keeps goal (Results left right) f keeps e = absurd keeps

  first_keeps : (goal : Option Equation) (move : Move) (f : FormedStep) → KeepsNone move
      → formed parts goal hypotheses (step_of move) ≡ Ok f → f.kept ≡ []
  first_keeps None move f keeps e = absurd cc
  first_keeps (Some goal) move f keeps e = formed_keeps goal move f keeps e

module _ (parts : RuleParts) (state : State) (move : Move) (keeps : KeepsNone move) (next : Next)
  where
    shown_keeps : (f : FormedStep) (said : Said) → f.kept ≡ []
        → (where_shown said (record { move = move; state = taken state f })).made ≡ Some next →
        next.state.hypotheses ≡ state.hypotheses
    shown_keeps f Yes none e =
        let same : record { move = move; state = taken state f } ≡ next = cc in
        ap (λ (n : Next). n.state.hypotheses) (sym same) ∙
        ap (λ kept. state.hypotheses ++ kept) none ∙ append-nil state.hypotheses
    shown_keeps f No none e = absurd cc
    shown_keeps f Beyond none e = absurd cc

    attempt_by : (o : Forming FormedStep) → formed parts (slice_get state.goals 0) state.hypotheses
        (step_of move) ≡ o
        → (next_if_formed state move o).made ≡ Some next → next.state.hypotheses ≡ state.hypotheses
    attempt_by (Ok f) is e =
        shown_keeps f (asked_shown (first_rows state.goals) (first_rows f.goals) f.asked)
        (first_keeps parts state.hypotheses (slice_get state.goals 0) move f keeps is) e
    attempt_by (Err Large) is e = absurd cc
    attempt_by (Err NoGoal) is e = absurd cc
    attempt_by (Err WrongShape) is e = absurd cc
    attempt_by (Err NoSuchRule) is e = absurd cc
    attempt_by (Err form_end.NoMemory) is e = absurd cc

    pub attempt_keeps : (attempt parts state move).made ≡ Some next → next.state.hypotheses ≡
        state.hypotheses
    unfolding attempt
    attempt_keeps e =
        attempt_by (formed parts (slice_get state.goals 0) state.hypotheses (step_of move)) refl e
