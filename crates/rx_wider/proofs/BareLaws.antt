-- The goal without its rows, once the goal is generalised to it.
use Rattle.std.proofs.Common.{◌≡◌, ◌∙◌, ap, sym, subst, Bool, true, false, Option, Some, Ok, Err, List, [], ◌∷◌, ◌&&◌}
use Rattle.std.specs.Prelude.{if◌then◌else◌, option_and_then}
use Rattle.rx_cert.specs.Findings.{Said, Yes, No, Beyond}
use Rattle.rx_row.specs.declared.row.Row.{Row}
use Rattle.rx_solve.specs.Attempts.{where_shown}
use Rattle.rx_term.specs.Domains.{inside_of}
use Rattle.rx_term.specs.declared.rule.Equation.{Equation}
use Rattle.rx_term.specs.declared.rule_set.RuleParts.{RuleParts}
use Rattle.rx_inference.specs.Forming.{provided}
use Rattle.rx_inference.specs.Making.{asking_inside, instance_rows}
use Rattle.rx_inference.specs.Pieces.{have_one_shape, is_equation, is_substitution}
use Rattle.rx_inference.specs.States.{State, taken}
use Rattle.rx_inference.specs.declared.form_end.FormEnd.TheVariants.{Large}
use Rattle.rx_inference.specs.declared.step.Step.{Step}
use Rattle.rx_moves.specs.Moves.{Generalise}
use Rattle.rx_moves.specs.Trying.{Next, asked_shown, attempt, next_if_formed}
use Rattle.rx_settle.proofs.ReachedLaws.{reached_more, reached_start}
use Rattle.rx_wider.specs.Nodes.{after_moves}
use Rattle.rx_wider.specs.Reached.{AreTaken, IsBegun, StartsAt}
use Rattle.rx_wider.specs.Tails.{goal_under}
use Rattle.rx_wider.specs.declared.opening.Begun.{Begun}
use Rattle.rx_rank.specs.Ranking.{ranked}
use Rattle.rx_rank.specs.declared.kind.RankingKind.{RankingKind}

module _ (parts : RuleParts) (goal to : Equation) where
  abbrev stays : Option Next → Option State
  stays made = option_and_then (λ (next : Next). Some next.state) made

  module _ (rows inside : List Row) where
    shown_bare : (said : Said) (new : State) →
        stays (where_shown said (record {
          move = Generalise to [];
          state = taken (goal_under [] goal) (asking_inside rows inside to);
        })).made ≡ Some new → new ≡ goal_under [] to
    shown_bare Yes new e =
        let same : taken (goal_under [] goal) (asking_inside rows inside to) ≡ new = cc in sym same
    shown_bare No new e = absurd cc
    shown_bare Beyond new e = absurd cc

    formed_bare : (b w : Bool) (new : State) →
        stays (next_if_formed (goal_under [] goal) (Generalise to [])
        (provided b (if w then Ok (asking_inside rows inside to) else Err Large))).made ≡ Some new →
        new ≡ goal_under [] to
    formed_bare true true new e =
        shown_bare (asked_shown goal.rows to.rows (asking_inside rows inside to).asked) new e
    formed_bare true false new e = absurd cc
    formed_bare false w new e = absurd cc

  bare_state : (new : State) →
      after_moves parts (goal_under [] goal) (Generalise to [] ∷ []) ≡ Some new →
      new ≡ goal_under [] to
  unfolding attempt
  bare_state new e =
      formed_bare (instance_rows [] to goal).form (inside_of parts to).form
      (is_equation parts to && (is_substitution [] &&
      (have_one_shape to.left goal.left && have_one_shape to.right goal.right)))
      ((instance_rows [] to goal).within && (inside_of parts to).within) new e

  -- the opening behind that step
  pub bare_begun : (kind : RankingKind) → StartsAt kind parts goal → (new : State)
      (steps : List Step) →
      AreTaken parts (goal_under [] goal) new (Generalise to [] ∷ []) steps →
      (begun : Begun) → begun ≡ record { steps = steps; state = new } →
      IsBegun kind parts goal to begun
  bare_begun kind starts new steps takes begun same =
      let is = bare_state new takes.leads in
      subst (IsBegun kind parts goal to) (sym same) (record {
        goals = ap (λ (s : State). s.goals) is;
        is = record {
          reached =
              reached_more parts goal [] (goal_under [] goal)
              (reached_start parts goal starts.made starts.fits) steps new takes.applies
              takes.deep;
          ranked = ap (λ (s : State). ranked kind parts s.hypotheses) is ∙ starts.ranked;
        };
      })
