-- The ranking of all pairs inside the domains: they are those of the definition, and what rounds
-- have come to lowers them all.
use Rattle.std.proofs.Common.{◌≡◌, ◌∙◌, ap, arith, cond, sym, subst, ℕ, Bool, true, false, None, List, [], ◌++◌, length, map, All}
use Rattle.std.proofs.lemmas.List.Elements.{All-append, All-map, All-nil, All-weaker}
use Rattle.rx_graph.specs.Graph.{IsOver}
use Rattle.rx_term.specs.WellMade.{IsMade, IsWellMade}
use Rattle.rx_term.specs.declared.rule.Rule.{Rule}
use Rattle.rx_term.specs.declared.rule_set.RuleParts.{RuleParts}
use Rattle.rx_term.specs.declared.rule_set.SymInfo.{SymInfo}
use Rattle.rx_pairs.proofs.InsideLaws.{whole_listed}
use Rattle.rx_pairs.proofs.LoopLaws.{all_within}
use Rattle.rx_pairs.proofs.PairsLaws.{made_roots}
use Rattle.rx_pairs.specs.Graph.{edges_of}
use Rattle.rx_pairs.specs.Inside.{bounded, descent_in, listing}
use Rattle.rx_pairs.specs.Lowering.{Descends}
use Rattle.rx_pairs.specs.Pairs.{HasRoot, SidesFit}
use Rattle.rx_pairs.specs.Ranks.{bad_rank}
use Rattle.rx_pairs.specs.declared.listing.Listing.{Listing}
use Rattle.rx_pairs.specs.declared.pair.Pair.{Pair}
use Rattle.rx_pairs.specs.declared.table.RankTable.{RankTable}
use Rattle.rx_solve.specs.Attempts.{beyond}
use Rattle.rx_rank.specs.Ranking.{ranking, ranking_from, ranking_of}
use Rattle.rx_find_ranks.specs.Found.{HasColumns, LowersAll}
use Rattle.rx_find_ranks.specs.Rounds.{IsBegun, IsLonger, IsRanked}
use Rattle.rx_find_ranks.specs.Tables.{IsDeepPair, IsLawful, IsSplit, pairs_open}
use Rattle.rx_find_ranks.specs.Columns.{columns_in}
use Rattle.rx_find_ranks.specs.declared.column.FoundColumn.{FoundColumn}
use Rattle.rx_find_ranks.specs.declared.progress.Progress.{Progress}
use Rattle.rx_find_ranks.specs.declared.ranking.Ranking.{Ranking}
use Rattle.rx_rank.specs.declared.kind.RankingKind.{RankingKind}

-- ---- where all pairs are listed, and where not

module _ (kind : RankingKind) (parts : RuleParts) (hypotheses : List Rule) where
  ranked_by : (listed : Listing) (b : Bool) → listed.whole ≡ b →
      cond b (ranking_from kind parts hypotheses 7 listed.pairs) beyond ≡
      ranking_of kind parts hypotheses listed
  ranked_by listed b e =
      ap (λ w. cond w (ranking_from kind parts hypotheses 7 listed.pairs) beyond) (sym e)

  module _ (listed : Listing) (is : listed ≡ listing parts (parts.rules ++ hypotheses)) where
    pub not_whole : listed.whole ≡ false → beyond ≡ ranking kind parts hypotheses
    not_whole e = ranked_by listed false e ∙ ap (ranking_of kind parts hypotheses) is

    pub all_listed : listed.whole ≡ true →
        ranking_from kind parts hypotheses 7 listed.pairs ≡ ranking kind parts hypotheses
    all_listed e = ranked_by listed true e ∙ ap (ranking_of kind parts hypotheses) is

module _ (kind : RankingKind) (parts : RuleParts) (hypotheses : List Rule)
    (made : IsWellMade parts) (roots : All HasRoot hypotheses)
    (fit : All (SidesFit parts) hypotheses) (listed : Listing)
    (is : listed ≡ listing parts (parts.rules ++ hypotheses)) (whole : listed.whole ≡ true) where
  abbrev rules : List Rule
  rules = parts.rules ++ hypotheses

  pairs_are : listed.pairs ≡ (listing parts rules).pairs
  pairs_are = ap (λ (l : Listing). l.pairs) is

  whole_is : (listing parts rules).whole ≡ true
  whole_is = sym (ap (λ (l : Listing). l.whole) is) ∙ whole

  rules_fit : All (SidesFit parts) rules
  rules_fit =
      All-append (SidesFit parts) parts.rules hypotheses
      (All-weaker (IsMade parts) (SidesFit parts) (λ rule m. (m.left_fits, m.right_fits))
      parts.rules made) fit

  rules_have_roots : All HasRoot rules
  rules_have_roots =
      All-append HasRoot parts.rules hypotheses (made_roots parts parts.rules made) roots

  over : IsOver (length parts.symbols) (edges_of listed.pairs)
  over =
      subst (λ ps. IsOver (length parts.symbols) (edges_of ps)) (sym pairs_are)
      (all_within parts (map (bounded parts) rules) (listing parts rules).pairs
      (whole_listed parts rules rules_have_roots whole_is)
      (All-map (SidesFit parts) (bounded parts) rules rules_fit))

  module _ (start : Progress) (begun : IsBegun listed.pairs start) where
    -- the open pairs at first are those of the definition
    pub first_over : IsOver (length parts.symbols) (edges_of (pairs_open start.entries.items))
    first_over = subst (λ ps. IsOver (length parts.symbols) (edges_of ps)) (sym begun.all) over

    pub first_ranking :
        ranking_from kind parts hypotheses 7 (pairs_open start.entries.items) ≡ ranking kind parts
        hypotheses
    first_ranking =
        ap (ranking_from kind parts hypotheses 7) begun.all
        ∙ all_listed kind parts hypotheses listed is whole

    -- the table of the columns at last lowers all pairs
    module _ (after : Progress) (ranked : IsRanked parts.symbols start after) (symbols : ℕ)
        (count : symbols ≡ length parts.symbols)
        (columns : List FoundColumn) (columns_are : columns ≡ after.columns.items)
        (found : Ranking) where
      abbrev Lawful : Type 0
      Lawful =
          (ps : RuleParts) → symbols ≡ length ps.symbols →
          All (IsLawful ps.symbols) (columns_in columns) → bad_rank ps found.table ≡ None

      abbrev Lower : Type 0
      Lower =
          (ps : List Pair) → IsSplit ps (columns_in columns) [] after.closed.items →
          IsOver symbols (edges_of ps) → descent_in found.table true 0 ps found.certs ≡ Descends

      abbrev Deep : Type 0
      Deep =
          (ps : List Pair) → IsSplit ps (columns_in columns) [] after.closed.items →
          All IsDeepPair found.certs

      all_lawful : All (IsLawful parts.symbols) (columns_in columns)
      all_lawful =
          subst (λ vs. All (IsLawful parts.symbols) (columns_in vs)) (sym columns_are)
          (ranked.lawful (subst (λ vs. All (IsLawful parts.symbols) (columns_in vs))
          (sym begun.columns) (All-nil (IsLawful parts.symbols))))

      last_split : IsSplit listed.pairs (columns_in columns) [] after.closed.items
      last_split =
          subst (λ vs. IsSplit listed.pairs (columns_in vs) [] after.closed.items) (sym columns_are)
          (subst (λ es. IsSplit listed.pairs (columns_in after.columns.items) es
          after.closed.items) ranked.none (ranked.split listed.pairs begun.split))

      pub lowers_here : Lawful → Lower → Deep → LowersAll parts hypotheses found
      lowers_here lawful lower deep = record {
        lawful =
            lawful parts count all_lawful;
        lower =
            ap (λ (l : Listing). descent_in found.table l.whole 0 l.pairs found.certs) (sym is)
            ∙ ap (λ w. descent_in found.table w 0 listed.pairs found.certs) whole
            ∙ lower listed.pairs last_split
            (subst (λ k. IsOver k (edges_of listed.pairs)) (sym count) over);
        deep = deep listed.pairs last_split;
      }

-- rounds from none on make one to fifteen columns
pub columns_here : (infos : List SymInfo) (start after : Progress) → IsRanked infos start after →
    IsLonger 7 start after → (table : RankTable) → table.columns ≡ length after.columns.items →
    HasColumns table
columns_here infos start after ranked longer table same =
    let few = ranked.count in
    let more = longer.longer (omega arith) in
    record { some = omega (arith, same, more); few = omega (arith, same, few) }
