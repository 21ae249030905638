-- Rounds over the open pairs alone.
use Rattle.std.proofs.Common.{◌≡◌, ◌∙◌, ap, sym, subst, refl, cond, ℕ, zero, suc, Bool, true, false, Option, Some, None, List, [], ◌∷◌, ◌++◌, length, map, All}
use Rattle.std.proofs.lemmas.List.Elements.{All-append, All-map}
use Rattle.rx_graph.specs.Graph.{IsOver}
use Rattle.rx_pairs.proofs.InsideLaws.{joined, listing-append, whole_listed}
use Rattle.rx_pairs.proofs.LoopLaws.{all_within}
use Rattle.rx_pairs.proofs.Lowered.{made_fit}
use Rattle.rx_pairs.proofs.PairsLaws.{made_roots}
use Rattle.rx_pairs.specs.Graph.{edges_of}
use Rattle.rx_pairs.specs.Inside.{bounded, listing}
use Rattle.rx_pairs.specs.Pairs.{HasRoot, SidesFit}
use Rattle.rx_pairs.specs.declared.listing.Listing.{Listing}
use Rattle.rx_pairs.specs.declared.pair.Pair.{Pair}
use Rattle.rx_rank.specs.Components.{inside}
use Rattle.rx_rank.specs.Ranking.{polynomials, ranking, ranking_from, ranking_of, unless_closed}
use Rattle.rx_rank.specs.Tries.{and_then, made_then, noting}
use Rattle.rx_solve.specs.Attempts.{Tried, applies, beyond, fails}
use Rattle.rx_term.specs.WellMade.{IsWellMade}
use Rattle.rx_term.specs.declared.rule.Rule.{Rule}
use Rattle.rx_term.specs.declared.rule_set.RuleParts.{RuleParts}
use Rattle.rx_rank.specs.declared.kind.RankingKind.{RankingKind}

module _ (kind : RankingKind) (parts : RuleParts) (hypotheses : List Rule) where
  abbrev n : ℕ
  n = length parts.symbols

  -- ---- the definition, by the pairs that are open after the heights

  by_open : (opens : List Pair) (next : List Pair → Tried (Unit {0})) → length opens ≡ 0 →
      applies tt ≡ unless_closed kind parts hypotheses opens (next opens)
  by_open [] next none = refl
  by_open (pair ∷ pairs) next none = cc

  by_some : (opens : List Pair) (next : List Pair → Tried (Unit {0})) → (length opens ≡ 0 → ⊥) →
      next opens ≡ unless_closed kind parts hypotheses opens (next opens)
  by_some [] next some = absurd (some refl)
  by_some (pair ∷ pairs) next some = refl

  module _ (pairs opens : List Pair) (is : opens ≡ inside n pairs) where
    -- none is
    pub all_closed : (k : ℕ) → length opens ≡ 0 → applies tt ≡ ranking_from kind parts hypotheses k
        pairs
    unfolding ranking_from
    all_closed zero none =
        by_open opens (λ ps. fails) none ∙ ap (λ ps. unless_closed kind parts hypotheses ps fails)
        is
    all_closed (suc k) none =
        by_open opens (λ ps. and_then (polynomials kind parts hypotheses ps)
        (ranking_from kind parts hypotheses k)) none
        ∙ ap (λ ps. unless_closed kind parts hypotheses ps (and_then (polynomials kind parts
        hypotheses ps)
        (ranking_from kind parts hypotheses k))) is

    module _ (some : length opens ≡ 0 → ⊥) where
      -- one is, and no round is left
      pub no_more_rounds : (k : ℕ) → k ≡ 0 → fails ≡ ranking_from kind parts hypotheses k pairs
      unfolding ranking_from
      no_more_rounds zero none =
          by_some opens (λ ps. fails) some ∙ ap (λ ps. unless_closed kind parts hypotheses ps fails)
          is
      no_more_rounds (suc k) none = cc

      -- one is, and a round is left
      one_round : (k : ℕ) → and_then (polynomials kind parts hypotheses opens)
          (ranking_from kind parts hypotheses k) ≡ ranking_from kind parts hypotheses (suc k) pairs
      unfolding ranking_from
      one_round k =
          by_some opens (λ ps. and_then (polynomials kind parts hypotheses ps)
          (ranking_from kind parts hypotheses k)) some
          ∙ ap (λ ps. unless_closed kind parts hypotheses ps (and_then (polynomials kind parts
          hypotheses ps)
          (ranking_from kind parts hypotheses k))) is

      module _ (k left : ℕ) (one_less : left ≡ suc k) (made : Option (List Pair)) (noted : Bool)
          (tried : record { made = made; noted = noted } ≡ polynomials kind parts hypotheses opens)
        where
          then_is : made_then made noted (ranking_from kind parts hypotheses k) ≡
              ranking_from kind parts hypotheses left pairs
          then_is =
              ap (λ (t : Tried (List Pair)). and_then t (ranking_from kind parts hypotheses k)) tried
              ∙ one_round k ∙ ap (λ m. ranking_from kind parts hypotheses m pairs) (sym one_less)

          -- no polynomials are found
          pub round_ends : made ≡ None → record { made = None; noted = noted } ≡
              ranking_from kind parts hypotheses left pairs
          round_ends none =
              ap (λ m. made_then m noted (ranking_from kind parts hypotheses k)) (sym none) ∙ then_is

          -- they are, and the rounds that are left decide
          pub round_goes_on : (next : List Pair) → made ≡ Some next → (rest : Tried (Unit {0})) →
              rest ≡ ranking_from kind parts hypotheses k next
              → noting noted rest ≡ ranking_from kind parts hypotheses left pairs
          round_goes_on next found rest later =
              ap (noting noted) later
              ∙ ap (λ m. made_then m noted (ranking_from kind parts hypotheses k)) (sym found) ∙
              then_is

-- ---- the pairs of the rules, and those of the hypotheses after them

module _ (kind : RankingKind) (parts : RuleParts) (hypotheses : List Rule) where
  not_whole : (listed : Listing) → listed.whole ≡ false → beyond ≡ ranking_of kind parts hypotheses
      listed
  not_whole listed e =
      ap (λ (b : Bool). cond b (ranking_from kind parts hypotheses 7 listed.pairs) beyond) (sym e)

  is_whole : (listed : Listing) → listed.whole ≡ true →
      ranking_from kind parts hypotheses 7 listed.pairs ≡ ranking_of kind parts hypotheses listed
  is_whole listed e =
      ap (λ (b : Bool). cond b (ranking_from kind parts hypotheses 7 listed.pairs) beyond) (sym e)

  -- the pairs of the rules aren't all listed
  ends_first : (first others : Listing) → first.whole ≡ false →
      (joined first others).whole ≡ false
  ends_first first others e =
      ap (λ (b : Bool). (cond b (record {
        pairs = first.pairs ++ others.pairs;
        whole = others.whole;
      }) first).whole) e ∙ e

  pub rules_beyond : (first : Listing) → first ≡ listing parts parts.rules → first.whole ≡ false →
      beyond ≡ ranking kind parts hypotheses
  rules_beyond first is e =
      not_whole (joined first (listing parts hypotheses))
      (ends_first first (listing parts hypotheses) e)
      ∙ ap (ranking_of kind parts hypotheses) (ap (λ l. joined l (listing parts hypotheses)) is
      ∙ sym (listing-append parts parts.rules hypotheses))

  module _ (first : List Pair)
      (first_is : record { pairs = first; whole = true } ≡ listing parts parts.rules)
      (more : Listing) (more_is : more ≡ listing parts hypotheses) where
    all_is : record { pairs = first ++ more.pairs; whole = more.whole } ≡
        listing parts (parts.rules ++ hypotheses)
    all_is =
        (λ i. joined (first_is i) (more_is i)) ∙ sym (listing-append parts parts.rules hypotheses)

    -- those of the hypotheses aren't
    pub hypotheses_beyond : more.whole ≡ false → beyond ≡ ranking kind parts hypotheses
    hypotheses_beyond e =
        not_whole (record { pairs = first ++ more.pairs; whole = more.whole }) e
        ∙ ap (ranking_of kind parts hypotheses) all_is

    module _ (e : more.whole ≡ true) where
      -- they are
      pub all_ranked : ranking_from kind parts hypotheses 7 (first ++ more.pairs) ≡
          ranking kind parts hypotheses
      all_ranked =
          is_whole (record { pairs = first ++ more.pairs; whole = more.whole }) e
          ∙ ap (ranking_of kind parts hypotheses) all_is

      abbrev all : List Rule
      all = parts.rules ++ hypotheses

      -- and they are of the symbols
      pub all_over : IsWellMade parts → All HasRoot hypotheses → All (SidesFit parts) hypotheses →
          IsOver (length parts.symbols) (edges_of (first ++ more.pairs))
      all_over made roots fit =
          subst (λ (ps : List Pair). IsOver (length parts.symbols) (edges_of ps))
          (sym (ap (λ (l : Listing). l.pairs) all_is))
          (all_within parts (map (bounded parts) all) (listing parts all).pairs
          (whole_listed parts all (All-append HasRoot parts.rules hypotheses
          (made_roots parts parts.rules made) roots)
          (sym (ap (λ (l : Listing). l.whole) all_is) ∙ e))
          (All-map (SidesFit parts) (bounded parts) all
          (All-append (SidesFit parts) parts.rules hypotheses (made_fit parts parts.rules made)
          fit)))
