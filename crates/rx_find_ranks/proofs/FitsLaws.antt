-- The fit of all components, with the entries of their groups, is what comes of the open pairs.
use Rattle.std.proofs.Common.{◌≡◌, ◌∙◌, ap, sym, subst, arith, ℕ, ◌≤◌, ◌^◌, Option, Some, None, Vec, List, true, Contains, length}
use Rattle.std.specs.List.{AllZip}
use Rattle.std.specs.Option.{IfSome, option_map}
use Rattle.std.specs.declared.alloc.Global.{Global}
use Rattle.std.proofs.lemmas.List.FromFn.{length-map-range_with_len}
use Rattle.rx_graph.specs.Components.{component_of}
use Rattle.rx_graph.specs.Graph.{IsOver}
use Rattle.rx_term.specs.declared.rule.Rule.{Rule}
use Rattle.rx_term.specs.declared.rule_set.RuleParts.{RuleParts}
use Rattle.rx_pairs.specs.Graph.{edges_of}
use Rattle.rx_pairs.specs.declared.pair.Pair.{Pair}
use Rattle.rx_anchors.specs.Values.{polynomial_of}
use Rattle.rx_rank.specs.Answers.{IsDecided, IsHeld, still_open, tried_as}
use Rattle.rx_rank.specs.Components.{representatives_of}
use Rattle.rx_rank.specs.Ranking.{polynomials}
use Rattle.rx_rank.specs.Tries.{all_made}
use Rattle.rx_rank.specs.declared.attempt.Attempt.{Attempt}
use Rattle.rx_rank.specs.declared.fitting.Fit.{Fit}
use Rattle.rx_find_ranks.proofs.ComponentTries.{all_tries}
use Rattle.rx_find_ranks.proofs.Grouping.{group_count}
use Rattle.rx_find_ranks.proofs.Grouped.{grouped_among, numbers_grouped}
use Rattle.rx_find_ranks.specs.Fits.{AreFits, AreOf, AreTried, GoesWith}
use Rattle.rx_find_ranks.specs.Joined.{IsFitBelow, tries_from}
use Rattle.rx_find_ranks.specs.Groups.{by_component, groups_in, ungrouped}
use Rattle.rx_find_ranks.specs.Tables.{has_number, pairs_open}
use Rattle.rx_find_ranks.specs.declared.fits.Fits.{Fits}
use Rattle.rx_find_ranks.specs.declared.open_pair.OpenPair.{OpenPair}
use Rattle.rx_rank.specs.declared.kind.RankingKind.{RankingKind}

-- the groups are those of the components of the open pairs, and are borrowed
module _ (kind : RankingKind) (parts : RuleParts) (hypotheses : List Rule) (entries : List OpenPair)
    (names : List ℕ)
    (groups lent : List (Vec OpenPair Global))
    (found : names ≡ representatives_of (length parts.symbols) (pairs_open entries))
    (grouped : groups_in groups ≡ by_component names entries) (same : lent ≡ groups) where
  abbrev n : ℕ
  n = length parts.symbols

  names_count : length names ≡ n
  names_count =
      ap (λ (ns : List ℕ). length ns) found ∙
      length-map-range_with_len (component_of n (edges_of (pairs_open entries))) 0 n

  pub few_groups : n ≤ 2 ^ 32 → length lent ≤ 2 ^ 32
  few_groups few =
      let count = names_count in
      let each = group_count names entries groups grouped in
      let all = ap (λ (gs : List (Vec OpenPair Global)). length gs) same in
      omega (arith, few, count, each, all)

  whole_is : all_made (tries_from kind parts hypotheses names 0 (groups_in lent)) ≡
      polynomials kind parts hypotheses (pairs_open entries)
  whole_is =
      ap (λ gs. all_made (tries_from kind parts hypotheses names 0 (groups_in gs))) same
      ∙ ap (λ gs. all_made (tries_from kind parts hypotheses names 0 gs)) grouped
      ∙ all_tries kind parts hypotheses names entries found names_count

  abbrev all : List OpenPair
  all = ungrouped (groups_in groups)

  all_lent : all ≡ ungrouped (groups_in lent)
  all_lent = ap (λ gs. ungrouped (groups_in gs)) (sym same)

  abbrev opens : Fits → List Pair
  opens fits = still_open (pairs_open fits.entries.items) fits.falls.items

  abbrev opens_lent : Fit → List Pair
  opens_lent fit = still_open (pairs_open (ungrouped (groups_in lent))) fit.falls.items

  same_opens : (fit : Option Fit) (fits : Option Fits) → GoesWith all fit fits →
      option_map opens fits ≡ option_map opens_lent fit
  same_opens None fits none = ap (option_map opens) none
  same_opens (Some fit) None goes = absurd goes
  same_opens (Some fit) (Some fits) goes =
      λ i. Some (still_open (pairs_open ((goes.entries_are ∙ all_lent) i)) (goes.falls i))

  -- what comes of all is what comes of the open pairs
  pub fits_tried : (t : Attempt Fit) (after : Attempt Fits)
      → tried_as opens_lent t ≡ all_made (tries_from kind parts hypotheses names 0 (groups_in lent))
      → AreTried all t after
      → tried_as opens after ≡ polynomials kind parts hypotheses (pairs_open entries)
  fits_tried t after tried are =
      (λ i. record { made = same_opens t.made after.made are.made i; noted = are.noted i })
      ∙ tried ∙ whole_is

  module _ (over : IsOver n (edges_of (pairs_open entries))) where
    all_by_names : ungrouped (by_component names entries) ≡ all
    all_by_names = sym (ap ungrouped grouped)

    fits_of : (fit : Fit) (fits : Fits) → AreOf fit all fits → IsFitBelow parts.symbols names
        (length lent) (pairs_open (ungrouped (groups_in lent))) fit
        → AreFits parts.symbols entries fits
    fits_of fit fits are below =
        let pairs_are : pairs_open (ungrouped (groups_in lent)) ≡ pairs_open fits.entries.items =
        ap pairs_open (sym all_lent ∙ sym are.entries_are) in
        record {
          lawful =
              λ f p e. (below.own f p (ap (λ vs. polynomial_of vs f) (sym are.column) ∙ e)).over;
          holds =
              subst (λ vs. AllZip (IsHeld vs) (pairs_open fits.entries.items) fits.holds.items)
              (sym are.column)
              (subst (AllZip (IsHeld fit.values.items) (pairs_open fits.entries.items))
              (sym are.holds)
              (subst (λ ps. AllZip (IsHeld fit.values.items) ps fit.holds.items) pairs_are
              below.fit_is.holds));
          falls =
              subst (λ vs. AllZip (IsDecided vs) (pairs_open fits.entries.items) fits.falls.items)
              (sym are.column)
              (subst (AllZip (IsDecided fit.values.items) (pairs_open fits.entries.items))
              (sym are.falls)
              (subst (λ ps. AllZip (IsDecided fit.values.items) ps fit.falls.items) pairs_are
              below.fit_is.falls));
          among =
              λ o there. grouped_among names entries o
              (subst (λ os. Contains os o) (are.entries_are ∙ sym all_by_names) there);
          numbers =
              λ k some. subst (λ os. has_number k os ≡ true) (all_by_names ∙ sym are.entries_are)
              (numbers_grouped n entries over names found k some);
        }

    -- the fits are of the open pairs
    pub fits_are : (fit : Option Fit) (fits : Option Fits) → GoesWith all fit fits
        → IfSome fit (IsFitBelow parts.symbols names (length lent)
        (pairs_open (ungrouped (groups_in lent))))
        → IfSome fits (AreFits parts.symbols entries)
    fits_are None fits none below =
        subst (λ o. IfSome o (AreFits parts.symbols entries)) (sym none) tt
    fits_are (Some fit) None goes below = absurd goes
    fits_are (Some fit) (Some fits) goes below = fits_of fit fits goes below
