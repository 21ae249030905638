-- Rounds: how a ranking goes on after a column of heights, and what a round adds to the columns.
use Rattle.std.proofs.Common.{◌≡◌, ◌∙◌, ap, sym, refl, arith, ℕ, zero, suc, ◌+◌, ◌≤◌, Bool, Option, Some, None, List, [], ◌∷◌, length}
use Rattle.std.specs.Option.{IfSome, option_map}
use Rattle.rx_pairs.specs.declared.pair.Pair.{Pair}
use Rattle.rx_rank.specs.Components.{inside}
use Rattle.rx_rank.specs.Ranking.{polynomials, ranking_from, unless_closed}
use Rattle.rx_rank.specs.Tries.{and_then, made_then, noting}
use Rattle.rx_solve.specs.Attempts.{Tried, applies, fails}
use Rattle.rx_term.specs.declared.rule.Rule.{Rule}
use Rattle.rx_term.specs.declared.rule_set.RuleParts.{RuleParts}
use Rattle.rx_term.specs.declared.rule_set.SymInfo.{SymInfo}
use Rattle.rx_find_ranks.specs.Rounds.{IsGrown, IsGrownOrSame, IsLonger, IsRanked}
use Rattle.rx_find_ranks.specs.Tables.{pairs_open}
use Rattle.rx_find_ranks.specs.declared.open_pair.OpenPair.{OpenPair}
use Rattle.rx_find_ranks.specs.declared.progress.Progress.{Progress}
use Rattle.rx_rank.specs.declared.kind.RankingKind.{RankingKind}

-- ---- the definition, by the pairs that are open after the heights

module _ (kind : RankingKind) (parts : RuleParts) (hypotheses : List Rule) where
  abbrev n : ℕ
  n = length parts.symbols

  -- none is: the end
  pub rounds_end : (k : ℕ) (pairs : List Pair) (ends : List OpenPair) → ends ≡ [] →
      pairs_open ends ≡ inside n pairs → applies tt ≡ ranking_from kind parts hypotheses k pairs
  unfolding ranking_from
  rounds_end zero pairs ends none is =
      ap (λ ps. unless_closed kind parts hypotheses ps fails) (sym (ap pairs_open none) ∙ is)
  rounds_end (suc k) pairs ends none is =
      ap (λ ps. unless_closed kind parts hypotheses ps
      (and_then (polynomials kind parts hypotheses ps) (ranking_from kind parts hypotheses k)))
      (sym (ap pairs_open none) ∙ is)

  goes_on : (next : List Pair → Tried (Unit {0})) (pairs : List Pair) (ends : List OpenPair) →
      (ends ≡ [] → ⊥) → pairs_open ends ≡ inside n pairs
      → next (pairs_open ends) ≡ unless_closed kind parts hypotheses (inside n pairs)
      (next (inside n pairs))
  goes_on next pairs [] some is = absurd (some refl)
  goes_on next pairs (o ∷ os) some is =
      ap (λ ps. unless_closed kind parts hypotheses ps (next ps)) is

  -- one is, and no round is left
  pub no_round : (pairs : List Pair) (ends : List OpenPair) → (ends ≡ [] → ⊥) → pairs_open ends ≡
      inside n pairs → fails ≡ ranking_from kind parts hypotheses 0 pairs
  unfolding ranking_from
  no_round pairs ends some is = goes_on (λ ps. fails) pairs ends some is

  -- one is, and a round is left
  pub next_round : (k : ℕ) (pairs : List Pair) (ends : List OpenPair) → (ends ≡ [] → ⊥) →
      pairs_open ends ≡ inside n pairs
      → and_then (polynomials kind parts hypotheses (pairs_open ends)) (ranking_from kind parts
      hypotheses k)
      ≡ ranking_from kind parts hypotheses (suc k) pairs
  unfolding ranking_from
  next_round k pairs ends some is =
      goes_on (λ ps. and_then (polynomials kind parts hypotheses ps) (ranking_from kind parts
      hypotheses k))
      pairs ends some is

  module _ (k left : ℕ) (pairs : List Pair) (grown : List OpenPair) (one_less : left ≡ suc k)
      (some : grown ≡ [] → ⊥) (is : pairs_open grown ≡ inside n pairs)
      (made : Option Progress) (noted : Bool)
      (tried : record {
        made = option_map (λ (after : Progress). pairs_open after.entries.items)
            made;
        noted = noted;
      } ≡ polynomials kind parts hypotheses (pairs_open grown)) where
    abbrev view : Progress → List Pair
    view after = pairs_open after.entries.items

    abbrev then : Option Progress → Tried (Unit {0})
    then o = made_then (option_map view o) noted (ranking_from kind parts hypotheses k)

    round_is : then made ≡ ranking_from kind parts hypotheses left pairs
    round_is =
        ap (λ (t : Tried (List Pair)). and_then t (ranking_from kind parts hypotheses k)) tried
        ∙ next_round k pairs grown some is
        ∙ ap (λ m. ranking_from kind parts hypotheses m pairs) (sym one_less)

    -- the polynomials aren't found
    pub round_fails : made ≡ None → record { made = None; noted = noted } ≡
        ranking_from kind parts hypotheses left pairs
    round_fails none = sym (ap then none) ∙ round_is

    -- they are, and what comes of the rounds that are left
    pub round_done : (next : Progress) → made ≡ Some next → (rest : Tried (Unit {0})) → rest ≡
        ranking_from kind parts hypotheses k (view next)
        → noting noted rest ≡ ranking_from kind parts hypotheses left pairs
    round_done next found rest later = ap (noting noted) later ∙ sym (ap then found) ∙ round_is

-- where no pair is open, none is inside a component
pub none_inside : (n : ℕ) (ends : List OpenPair) → ends ≡ [] → pairs_open ends ≡
    inside n (pairs_open ends)
none_inside n ends none = ap pairs_open none ∙ sym (ap (inside n) (ap pairs_open none))

-- ---- columns

module _ (infos : List SymInfo) (before : Progress) where
  -- no column more
  pub same_columns : IsGrownOrSame infos before before
  same_columns = record {
    count = omega arith;
    split = λ pairs split. split;
    lawful = λ all. all;
    over = λ within. within;
  }

  pub one_column : (after : Progress) → IsGrown infos before after →
      IsGrownOrSame infos before after
  one_column after grown = record {
    count = let more = grown.count in omega (arith, more);
    split = grown.split;
    lawful = grown.lawful;
    over = grown.over;
  }

  -- no pair is open
  pub ranked_grown : (after : Progress) → length before.columns.items ≤ 14 →
      IsGrownOrSame infos before after → after.entries.items ≡ [] → IsRanked infos before after
  ranked_grown after few grown none = record {
    count = let more = grown.count in omega (arith, few, more);
    none = none;
    split = grown.split;
    lawful = grown.lawful;
  }

  -- a round, and what comes then
  ranked_next : (grown next after : Progress) → IsGrownOrSame infos before grown →
      IsGrown infos grown next → IsRanked infos next after → IsRanked infos before after
  ranked_next grown next after first second rest = record {
    count = rest.count;
    none = rest.none;
    split = λ pairs split. rest.split pairs (second.split pairs (first.split pairs split));
    lawful = λ all. rest.lawful (second.lawful (first.lawful all));
  }

  pub ranked_rounds : (grown next : Progress) (made : Option Progress) →
      IsGrownOrSame infos before grown → IsGrown infos grown next → IfSome made (IsRanked infos
      next)
      → IfSome made (IsRanked infos before)
  ranked_rounds grown next None first second rest = rest
  ranked_rounds grown next (Some after) first second rest =
      ranked_next grown next after first second rest

-- ---- how many columns there are

module _ (before : Progress) where
  -- they stay where no round is left
  pub same_length : (left : ℕ) → left ≡ 0 → IsLonger left before before
  same_length left none = record { kept = omega arith; longer = λ some. omega arith }

  pub one_longer : (left : ℕ) (after : Progress) → length after.columns.items ≡
      length before.columns.items + 1 → IsLonger left before after
  one_longer left after more =
      record { kept = omega (arith, more); longer = λ some. omega (arith, more) }

  -- a round, and the rounds after it
  pub longer_rounds : (infos : List SymInfo) (left less : ℕ) (grown next : Progress)
      (made : Option Progress) → IsLonger left before grown → IsGrown infos grown next →
      IfSome made (IsLonger less next) → IfSome made (IsLonger left before)
  longer_rounds infos left less grown next None first second rest = rest
  longer_rounds infos left less grown next (Some after) first second rest =
      let start = first.kept in
      let more = second.count in
      let kept = rest.kept in
      record {
        kept = omega (arith, start, more, kept);
        longer = λ some. omega (arith, start, more, kept);
      }
