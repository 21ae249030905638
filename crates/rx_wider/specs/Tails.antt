-- Lemmas on tail calls. A tail call leaves a frame that gives back what it gets: that the frame over
-- the call equals the call takes it away. Inside domains the lemma has the rows that put its sides
-- inside.
use Rattle.std.specs.Prelude.{◌++◌, ◌&&◌, ◌==◌, if◌then◌else◌, Bool, true, Option, Some, None, List, [], ◌∷◌, length, option_and_then, unwrap_or}
use Rattle.std.specs.List.{fold, list_any}
use Rattle.rx_plain.specs.Formed.{Formed, ◌<$>◌}
use Rattle.rx_poly.specs.declared.body.Body.{Body}
use Rattle.rx_term.specs.Domains.{inside_of}
use Rattle.rx_term.specs.Stacks.{root_of}
use Rattle.rx_term.specs.declared.rule.Equation.{Equation}
use Rattle.rx_term.specs.declared.rule.Rule.{Rule}
use Rattle.rx_term.specs.declared.rule_set.RuleParts.{RuleParts}
use Rattle.rx_term.specs.declared.term.Sym.{Sym}
use Rattle.rx_term.specs.declared.term.Term.{Term, Term-F, out-Term}
use Rattle.rx_term.specs.declared.term.Term.TheVariants as term
use Rattle.rx_inference.specs.Pieces.{with_rows}
use Rattle.rx_inference.specs.States.{State}
use Rattle.rx_inference.specs.declared.step.Side.TheVariants.{Left, Right}
use Rattle.rx_moves.specs.Moves.{Move, Expand, Postulate}
use Rattle.rx_rank.specs.declared.kind.RankingKind.{RankingKind}
use Rattle.rx_settle.specs.Settling.{most_moves}
use Rattle.rx_settle.specs.Tasks.{TaskedSettled, settle_tasked, tasks_after}
use Rattle.rx_shapes.specs.Bounds.{is_with}
use Rattle.rx_shapes.specs.General.{variables_from}
use Rattle.rx_wider.specs.Nodes.{after_moves, if_ranked, is_closed}
use Rattle.rx_wider.specs.declared.tail_calls.TailCall.{TailCall}

-- ---- tail calls of rules

-- the frame over the call is equal to the call; each place has a variable of its own, the lowest
-- ones
abbrev pub tail_lemma : Sym → List Body → Sym → List Body → Equation
tail_lemma frame xs call ys = record {
  left = term.Frame frame (variables_from 0 xs) (term.Call call (variables_from (length xs) ys));
  right = term.Call call (variables_from (length xs) ys);
  rows = [];
}

-- a frame directly over a call
abbrev pub over_call : Sym → List Body → Term-F Term → Option TailCall
over_call frame xs (Term-F.Call call ys) =
    Some (record { frame = frame; call = call; lemma = tail_lemma frame xs call ys })
over_call frame xs (Term-F.Return p) = None
over_call frame xs (Term-F.Fail c) = None
over_call frame xs (Term-F.Frame f ps inner) = None

abbrev pub frame_over_call : Term-F Term → Option TailCall
frame_over_call (Term-F.Frame frame xs inner) = over_call frame xs (out-Term inner)
frame_over_call (Term-F.Return p) = None
frame_over_call (Term-F.Fail c) = None
frame_over_call (Term-F.Call call ys) = None

-- its call is in the component of a symbol
abbrev pub if_inside : RuleParts → Option Sym → TailCall → Option TailCall
if_inside parts root t = if is_with parts t.call.0 root then Some t else None

-- the right side of the rule is such a frame, and its call is in the component of the rule's left
-- root
abbrev pub tail_call_of : RuleParts → Rule → Option TailCall
tail_call_of parts rule =
    option_and_then (if_inside parts (root_of rule.left)) (frame_over_call (out-Term rule.right))

-- the lemma where both its sides are inside the domains: the inside rows of its left, and then of its
-- right side, each once
abbrev pub inside_lemma : RuleParts → Equation → Formed Equation
inside_lemma parts lemma = with_rows lemma <$> inside_of parts lemma

-- the same frame over the same call
abbrev pub is_same_call : TailCall → TailCall → Bool
is_same_call t u = (t.frame.0 == u.frame.0) && (t.call.0 == u.call.0)

abbrev pub is_among : List TailCall → TailCall → Bool
is_among found t = list_any (is_same_call t) found

-- each stands once, at its first rule
abbrev pub with_call : List TailCall → Option TailCall → List TailCall
with_call found None = found
with_call found (Some t) = if is_among found t then found else found ++ t ∷ []

abbrev pub with_rule : RuleParts → List TailCall → Rule → List TailCall
with_rule parts found rule = with_call found (tail_call_of parts rule)

abbrev pub tail_calls : RuleParts → List TailCall
tail_calls parts = fold (with_rule parts) [] parts.rules

-- ---- their lemmas

-- what stands before a search: moves that show lemmas, and the hypotheses that the lemmas are then
pub record Opening : Type 0 where
  pub moves : List Move
  pub hypotheses : List Rule

-- a goal alone, under hypotheses
abbrev pub goal_under : List Rule → Equation → State
goal_under hypotheses goal = record { goals = goal ∷ []; hypotheses = hypotheses }

-- the opening with the lemma, where no goal is left of it
abbrev pub with_shown : Opening → Equation → TaskedSettled → Option Opening
with_shown opening lemma settled =
    if is_closed settled.after.state.goals then Some (record {
      moves =
          opening.moves ++ (Postulate lemma ∷ Expand Left true ∷ settled.moves);
      hypotheses = settled.after.state.hypotheses;
    })
    else None

-- the goals that came of the lemma are settled, each with the right side as its task
abbrev pub lemma_settled : RuleParts → State → TaskedSettled
lemma_settled parts state =
    settle_tasked parts most_moves (record {
      state = state;
      tasks = tasks_after (Right ∷ []) [] 1 (length state.goals);
    })

module _ (kind : RankingKind) (parts : RuleParts) where
  -- alone under hypotheses the lemma is expanded, and kept as a hypothesis with which there are ranks
  abbrev pub expanded_alone : List Rule → Equation → Option State
  expanded_alone hypotheses lemma =
      option_and_then (if_ranked kind parts)
      (after_moves parts (goal_under hypotheses lemma) (Expand Left true ∷ []))

  module _ (goal : Equation) where
    -- the lemma is posed before the goal
    abbrev pub posed : Opening → Equation → Option State
    posed opening lemma =
        after_moves parts (goal_under opening.hypotheses goal) (Postulate lemma ∷ [])

    -- then it is expanded alone, and settling its goals leaves none
    abbrev pub shown : Opening → Equation → Option Opening
    shown opening lemma =
        option_and_then (λ (before : State).
        option_and_then (λ (after : State). with_shown opening lemma (lemma_settled parts after))
        (expanded_alone opening.hypotheses lemma)) (posed opening lemma)

    -- so of a lemma whose rows keep the limits
    abbrev pub shown_within : Opening → Formed Equation → Option Opening
    shown_within opening lemma = if lemma.within then shown opening lemma.form else None

    -- otherwise nothing of it is done
    abbrev pub with_lemma : Opening → TailCall → Opening
    with_lemma opening t =
        unwrap_or (shown_within opening (inside_lemma parts t.lemma)) opening

    -- the lemmas of all tail calls, in order
    abbrev pub with_lemmas : Opening → Opening
    with_lemmas opening = fold with_lemma opening (tail_calls parts)
