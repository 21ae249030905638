-- A walk over groups: the fit of the first components, and what comes of those that are left.
use Rattle.std.proofs.Common.{◌≡◌, ◌∙◌, ap, sym, subst, refl, arith, ℕ, ◌+◌, ◌<◌, ◌≤◌, Bool, false, ◌||◌, Option, Some, None, Vec, List, [], ◌∷◌, ◌++◌, drop, drop_of_length-le, get_or, length, take, take_all}
use Rattle.std.specs.Option.{IfSome, option_map}
use Rattle.std.specs.declared.alloc.Global.{Global}
use Rattle.rx_solve.specs.Attempts.{Tried}
use Rattle.rx_term.specs.declared.rule.Rule.{Rule}
use Rattle.rx_term.specs.declared.rule_set.RuleParts.{RuleParts}
use Rattle.rx_pairs.specs.declared.pair.Pair.{Pair}
use Rattle.rx_rank.specs.Answers.{still_open}
use Rattle.rx_rank.specs.Ranking.{unless_empty}
use Rattle.rx_rank.specs.Tries.{after, all_made, noting}
use Rattle.rx_rank.specs.declared.attempt.Attempt.{Attempt}
use Rattle.rx_rank.specs.declared.fitting.Fit.{Fit}
use Rattle.rx_rank.proofs.AllMade.{component_failed, component_made, no_component}
use Rattle.rx_find_ranks.proofs.ComponentTries.{groups_after, pairs_until}
use Rattle.rx_find_ranks.specs.Joined.{IsFitBelow, IsOneMore, tries_from}
use Rattle.rx_find_ranks.specs.Groups.{groups_in, ungrouped}
use Rattle.rx_find_ranks.specs.Tables.{pairs_open}
use Rattle.rx_find_ranks.specs.declared.open_pair.OpenPair.{OpenPair}
use Rattle.rx_rank.specs.declared.kind.RankingKind.{RankingKind}

-- the pairs of the first groups
abbrev pub pairs_to : List (Vec OpenPair Global) → ℕ → List Pair
pairs_to groups i = pairs_open (ungrouped (groups_in (take i groups)))

pub record IsWalked (kind : RankingKind) (parts : RuleParts) (hypotheses : List Rule) (names : List
    ℕ)
    (groups : List (Vec OpenPair Global)) (i : ℕ) (noted : Bool) (fit : Fit) : Type 0 where
  pub upto : i ≤ length groups
  pub decides : noting noted (after (still_open (pairs_to groups i) fit.falls.items)
      (all_made (tries_from kind parts hypotheses names i (groups_in (drop i groups)))))
      ≡ all_made (tries_from kind parts hypotheses names 0 (groups_in groups))
  pub fits : IsFitBelow parts.symbols names i (pairs_to groups i) fit

after_none : {A : Type 0} (o : Option (List A)) → option_map (λ ys. [] ++ ys) o ≡ o
after_none None = refl
after_none (Some ys) = refl

module _ (kind : RankingKind) (parts : RuleParts) (hypotheses : List Rule) (names : List ℕ)
    (groups : List (Vec OpenPair Global)) where
  abbrev whole : Tried (List Pair)
  whole = all_made (tries_from kind parts hypotheses names 0 (groups_in groups))

  pub walk_begin : (fit : Fit) → IsFitBelow parts.symbols names 0 [] fit →
      IsWalked kind parts hypotheses names groups 0 false fit
  walk_begin fit below = record {
    upto = omega arith;
    decides = λ i. record { made = after_none whole.made i; noted = whole.noted };
    fits = below;
  }

  module _ (i : ℕ) (noted : Bool) (fit : Fit)
      (walked : IsWalked kind parts hypotheses names groups i noted fit) where
    module _ (group : Vec OpenPair Global) (entries : List OpenPair) (there : i < length groups)
        (is : group ≡ get_or groups i group) (lent : entries ≡ group.items)
        (t : Attempt Fit) (one : IsOneMore kind parts hypotheses names i (pairs_open entries) fit t)
        (all_noted : Bool) (noted_is : all_noted ≡ (noted || t.noted)) where
      abbrev first : Tried (List Pair)
      first = unless_empty kind parts hypotheses names i (pairs_open entries)

      abbrev later : List (Tried (List Pair))
      later = tries_from kind parts hypotheses names (i + 1) (groups_in (drop (i + 1) groups))

      opened : noting noted (after (still_open (pairs_to groups i) fit.falls.items)
          (all_made (first ∷ later))) ≡ whole
      opened =
          (λ j. noting noted (after (still_open (pairs_to groups i) fit.falls.items)
          (all_made (unless_empty kind parts hypotheses names i (pairs_open (lent j)) ∷ later))))
          ∙ sym (ap (λ gs. noting noted (after (still_open (pairs_to groups i) fit.falls.items)
          (all_made (tries_from kind parts hypotheses names i gs))))
          (groups_after groups i group there is))
          ∙ walked.decides

      longer : pairs_to groups i ++ pairs_open entries ≡ pairs_to groups (i + 1)
      longer =
          ap (λ os. pairs_to groups i ++ pairs_open os) lent ∙
          sym (pairs_until groups i group there is)

      -- one component more has a first fit choice
      pub walk_next : (more : Fit) → t.made ≡ Some more →
          IsWalked kind parts hypotheses names groups (i + 1) all_noted more
      walk_next more made = record {
        upto = omega (arith, there);
        decides =
            (λ j. noting (noted_is j) (after (still_open (sym longer j) more.falls.items)
            (all_made later)))
            ∙ component_made noted (still_open (pairs_to groups i) fit.falls.items) whole first
            later opened (still_open (pairs_to groups i ++ pairs_open entries) more.falls.items)
            t.noted
            ((λ j. record {
              made = option_map
                  (λ (f : Fit). still_open (pairs_to groups i ++ pairs_open entries) f.falls.items)
                  (sym made j);
              noted = t.noted;
            })
            ∙ one.tried (pairs_to groups i) walked.fits);
        fits = subst (λ ps. IsFitBelow parts.symbols names (i + 1) ps more) longer
            (subst (λ m. IfSome m (IsFitBelow parts.symbols names (i + 1)
            (pairs_to groups i ++ pairs_open entries))) made
            (one.fits (pairs_to groups i) walked.fits));
      }

      -- it has none
      pub walk_failed : t.made ≡ None → record { made = None; noted = all_noted } ≡ whole
      walk_failed none =
          (λ j. record { made = None; noted = noted_is j })
          ∙ component_failed noted (still_open (pairs_to groups i) fit.falls.items) whole first
          later opened t.noted
          ((λ j. record {
            made = option_map (λ (f : Fit).
                still_open (pairs_to groups i ++ pairs_open entries) f.falls.items) (sym none j);
            noted = t.noted;
          })
          ∙ one.tried (pairs_to groups i) walked.fits)

    -- all components have one
    module _ (past : length groups ≤ i) where
      all_pairs_to : pairs_to groups i ≡ pairs_open (ungrouped (groups_in groups))
      all_pairs_to = ap (λ gs. pairs_open (ungrouped (groups_in gs))) (take_all i groups past)

      pub walk_end : record {
        made = Some (still_open (pairs_open (ungrouped (groups_in groups)))
            fit.falls.items);
        noted = noted;
      } ≡ whole
      walk_end =
          (λ j. record {
            made = Some (still_open (sym all_pairs_to j) fit.falls.items);
            noted =
                noted;
          })
          ∙ no_component noted (still_open (pairs_to groups i) fit.falls.items) whole
          (sym (ap (λ gs. noting noted (after (still_open (pairs_to groups i) fit.falls.items)
          (all_made (tries_from kind parts hypotheses names i (groups_in gs)))))
          (drop_of_length-le groups past))
          ∙ walked.decides)

      pub walk_fits : IsFitBelow parts.symbols names (length groups)
          (pairs_open (ungrouped (groups_in groups))) fit
      walk_fits =
          let last : i ≡ length groups = (let h = walked.upto in omega (arith, h, past)) in
          subst (λ k. IsFitBelow parts.symbols names k (pairs_open (ungrouped (groups_in groups)))
          fit) last
          (subst (λ ps. IsFitBelow parts.symbols names i ps fit) all_pairs_to walked.fits)
