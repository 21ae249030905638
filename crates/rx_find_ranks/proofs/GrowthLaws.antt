-- One column more in memory, whatever it is: what that makes of the columns, the split and the
-- lawful columns.
use Rattle.std.proofs.Common.{◌≡◌, ◌∙◌, ap, sym, subst, arith, suc, ◌+◌, List, [], ◌∷◌, ◌++◌, length, All}
use Rattle.std.proofs.lemmas.List.{length-append, length-map, map-append}
use Rattle.std.proofs.lemmas.List.Elements.{All-append, All-cons, All-nil}
use Rattle.rx_pairs.specs.declared.pair.Pair.{Pair}
use Rattle.rx_find_ranks.specs.Closing.{close_all}
use Rattle.rx_find_ranks.specs.Rounds.{AreLawful, IsSplitBy}
use Rattle.rx_find_ranks.specs.Columns.{Column, column_of, columns_in}
use Rattle.rx_find_ranks.specs.Tables.{IsLawful, IsSplit}
use Rattle.rx_find_ranks.specs.declared.column.FoundColumn.{FoundColumn}
use Rattle.rx_find_ranks.specs.declared.open_pair.OpenPair.{OpenPair}
use Rattle.rx_find_ranks.specs.declared.progress.Progress.{Progress}
use Rattle.rx_term.specs.declared.rule_set.SymInfo.{SymInfo}

module _ (before after : Progress) (column : FoundColumn)
    (pushed : after.columns.items ≡ before.columns.items ++ column ∷ []) where
  abbrev cols : List Column
  cols = columns_in before.columns.items

  whole : cols ++ column_of column ∷ [] ≡ columns_in after.columns.items
  whole =
      sym (map-append column_of before.columns.items (column ∷ [])) ∙ sym (ap columns_in pushed)

  pub count_pushed : length after.columns.items ≡ length before.columns.items + 1
  count_pushed =
      let longer = length-append before.columns.items (column ∷ []) in let same =
      ap (λ (vs : List FoundColumn). length vs) pushed in omega (arith, longer, same)

  next : length after.columns.items ≡ suc (length cols)
  next =
      let same = length-map before.columns.items column_of in
      let h = count_pushed in omega (arith, same, h)

  pub split_pushed : (pairs : List Pair) (left moved : List OpenPair) → after.entries.items ≡ left →
      after.closed.items ≡ close_all (length after.columns.items) before.closed.items moved
      → IsSplit pairs (cols ++ column_of column ∷ []) left
      (close_all (suc (length cols)) before.closed.items moved) → IsSplitBy pairs after
  split_pushed pairs left moved staying leaving split =
      subst (λ cs. IsSplit pairs (columns_in after.columns.items) after.entries.items cs)
      (sym leaving)
      (subst (λ es. IsSplit pairs (columns_in after.columns.items) es
      (close_all (length after.columns.items) before.closed.items moved)) (sym staying)
      (subst (λ k. IsSplit pairs (columns_in after.columns.items) left
      (close_all k before.closed.items moved)) (sym next)
      (subst (λ vs. IsSplit pairs vs left (close_all (suc (length cols)) before.closed.items moved))
      whole split)))

  pub lawful_pushed : (infos : List SymInfo) → IsLawful infos (column_of column) →
      AreLawful infos before → AreLawful infos after
  lawful_pushed infos lawful all =
      subst (λ vs. All (IsLawful infos) vs) whole
      (All-append (IsLawful infos) cols (column_of column ∷ []) all
      (All-cons (IsLawful infos) (column_of column) [] lawful (All-nil (IsLawful infos))))
