-- Whether a row is kept, by what is found of its instance; and lists after one row more.
use Rattle.std.proofs.Common.{◌≡◌, ◌∙◌, ap, sym, refl, ℕ, ◌+◌, ◌<◌, Bool, true, false, ◌&&◌, cond, if◌then◌else◌, List, [], ◌∷◌, ◌++◌, append_assoc, drop, get_or, length}
use Rattle.std.specs.List.{fold}
use Rattle.std.proofs.lemmas.List.{drop_more}
use Rattle.rx_poly.specs.Substitution.{numbered}
use Rattle.rx_poly.specs.declared.body.Body.{Body}
use Rattle.rx_row.specs.Substitution.{row_with}
use Rattle.rx_row.specs.declared.row.Row.{Row}
use Rattle.rx_cert.specs.Findings.{Said, Yes, No, Beyond, and_also}
use Rattle.rx_cert.specs.Showing.{all_shown, shown}
use Rattle.rx_solve.specs.Refuter.{refuted}
use Rattle.rx_pairs.specs.Pairs.{Part}
use Rattle.rx_find_domains.specs.Finding.{at_row, given_rows, is_kept, is_yes, others, without}
use Rattle.rx_find_domains.specs.declared.given.Given.{Given}
use Rattle.rx_find_domains.proofs.DroppingLaws.{differs}
use Rattle.rx_find_domains.proofs.Settling.{fold_next}

-- ---- one row

-- a list of one row is shown where the row is
alone : (s : Said) → and_also s Yes ≡ s
alone Yes = refl
alone No = refl
alone Beyond = refl

pub said_alone : (given rows : List Row) (row : Row) (s : Said) → rows ≡ row ∷ [] →
    all_shown refuted given rows ≡ s → is_yes s ≡ is_yes (shown refuted given row)
said_alone given rows row s is e =
    ap is_yes (sym e ∙ ap (all_shown refuted given) is ∙ alone (shown refuted given row))

module _ (given : List Row) (ps : List Body) (row made : Row) where
  -- the instance is formed, and decides
  pub formed_decides : (made ≡ (row_with (numbered ps) row).form) ×
      ((row_with (numbered ps) row).within ≡ true) →
      is_yes (shown refuted given made) ≡ is_kept given ps row
  formed_decides forms =
      ap (λ (r : Row). is_yes (shown refuted given r)) forms.0 ∙
      sym (ap (λ (b : Bool). b && is_yes (shown refuted given (row_with (numbered ps) row).form))
      forms.1)

pub beyond_drops : (given : List Row) (ps : List Body) (row : Row) →
    (row_with (numbered ps) row).within ≡ false → false ≡ is_kept given ps row
beyond_drops given ps row e =
    sym (ap (λ (b : Bool). b && is_yes (shown refuted given (row_with (numbered ps) row).form)) e)

-- ---- the rows but one

module _ (row : Row) (left rows : List Row) (i : ℕ) (other : Row) (there : i < length rows)
    (is : other ≡ get_or rows i other) where
  rest_is : others row (drop i rows) ≡
      cond (differs row other) (other ∷ others row (drop (i + 1) rows))
      (others row (drop (i + 1) rows))
  rest_is = ap (others row) (drop_more rows i other there ∙
      ap (λ (r : Row). r ∷ drop (i + 1) rows) (sym is))

  pub same_left : differs row other ≡ false →
      left ++ others row (drop (i + 1) rows) ≡ left ++ others row (drop i rows)
  same_left e =
      sym (ap (λ (rs : List Row). left ++ rs) (rest_is ∙
      ap (λ (b : Bool). cond b (other ∷ others row (drop (i + 1) rows))
      (others row (drop (i + 1) rows))) e))

  pub one_left : differs row other ≡ true →
      (left ++ other ∷ []) ++ others row (drop (i + 1) rows) ≡ left ++ others row (drop i rows)
  one_left e =
      append_assoc left (other ∷ []) (others row (drop (i + 1) rows)) ∙
      sym (ap (λ (rs : List Row). left ++ rs) (rest_is ∙
      ap (λ (b : Bool). cond b (other ∷ others row (drop (i + 1) rows))
      (others row (drop (i + 1) rows))) e))

-- ---- one occurrence

module _ (given : Given) (at : Part) (lists : List (List Row)) (listed : List Row) (i : ℕ)
    (row : Row) (there : i < length listed) (is : row ≡ get_or listed i row) where
  -- a row that is kept leaves the lists as they are
  pub kept_next : is_kept (given_rows given lists) at.arguments row ≡ true →
      fold (at_row given at) lists (drop (i + 1) listed) ≡
      fold (at_row given at) lists (drop i listed)
  kept_next e =
      sym (ap (λ (b : Bool). fold (at_row given at)
      (if b then lists else without lists at.symbol.0 row) (drop (i + 1) listed)) e) ∙
      fold_next (at_row given at) lists listed i row there is

  -- another is dropped
  pub dropped_next : (next : List (List Row)) → next ≡ without lists at.symbol.0 row →
      is_kept (given_rows given lists) at.arguments row ≡ false →
      fold (at_row given at) next (drop (i + 1) listed) ≡
      fold (at_row given at) lists (drop i listed)
  dropped_next next done e =
      ap (λ (ls : List (List Row)). fold (at_row given at) ls (drop (i + 1) listed)) done ∙
      sym (ap (λ (b : Bool). fold (at_row given at)
      (if b then lists else without lists at.symbol.0 row) (drop (i + 1) listed)) e) ∙
      fold_next (at_row given at) lists listed i row there is
