-- Rows that are taken up one after the other.
use Rattle.std.proofs.Common.{◌≡◌, ◌∙◌, ap, sym, ℕ, ◌+◌, ◌<◌, ◌≤◌, Bool, true, false, if◌then◌else◌, cond, List, [], ◌∷◌, ◌++◌, append_assoc, drop, get_or, length}
use Rattle.std.specs.List.{filter, flat_map, fold}
use Rattle.std.proofs.lemmas.Bool.{le-ltb, lt-ltb}
use Rattle.std.proofs.lemmas.List.{drop_more}
use Rattle.std.proofs.lemmas.List.Elements.{filter-append}
use Rattle.std.proofs.lemmas.List.Sums.{fold-append}
use Rattle.rx_row.specs.Membership.{pushed}
use Rattle.rx_row.specs.Variables.{row_uses_below}
use Rattle.rx_row.specs.declared.row.Row.{Row}
use Rattle.rx_term.specs.declared.rule.Equation.{Equation}
use Rattle.rx_term.specs.declared.rule.Rule.{Rule}
use Rattle.rx_term.specs.declared.rule_set.SymInfo.{SymInfo}
use Rattle.rx_find_domains.specs.Candidates.{candidates, candidates_from, most_candidates, rows_of_rule, taken, taking}

module _ (n : ℕ) where
  -- some rows, and then others
  pub taken_append : (rows xs ys : List Row) → taken n (taken n rows xs) ys ≡
      taken n rows (xs ++ ys)
  taken_append rows xs ys =
      sym (ap (fold taking rows) (filter-append (row_uses_below n) xs ys) ∙
      fold-append taking rows (filter (row_uses_below n) xs) (filter (row_uses_below n) ys))

  -- ---- one row

  module _ (rows : List Row) (row : Row) where
    by_test : (b : Bool) → row_uses_below n row ≡ b → taken n rows (row ∷ []) ≡
        (if b then taking rows row else rows)
    by_test true is = ap (λ (b : Bool). fold taking rows (cond b (row ∷ []) [])) is
    by_test false is = ap (λ (b : Bool). fold taking rows (cond b (row ∷ []) [])) is

    pub not_over : row_uses_below n row ≡ false → taken n rows (row ∷ []) ≡ rows
    not_over is = by_test false is

    pub one_taken : row_uses_below n row ≡ true → length rows < most_candidates →
        taken n rows (row ∷ []) ≡ pushed rows row
    one_taken is few =
        by_test true is ∙
        ap (λ (b : Bool). if b then pushed rows row else rows)
        (lt-ltb (length rows) most_candidates few)

    pub as_many : row_uses_below n row ≡ true → most_candidates ≤ length rows →
        taken n rows (row ∷ []) ≡ rows
    as_many is many =
        by_test true is ∙
        ap (λ (b : Bool). if b then pushed rows row else rows)
        (le-ltb (length rows) most_candidates many)

  -- ---- what is left of a list

  pub rows_next : (rows more : List Row) (i : ℕ) (row : Row) → i < length more → row ≡
      get_or more i row → taken n (taken n rows (row ∷ [])) (drop (i + 1) more) ≡
      taken n rows (drop i more)
  rows_next rows more i row there is =
      taken_append rows (row ∷ []) (drop (i + 1) more) ∙
      sym (ap (taken n rows) (drop_more more i row there ∙
      ap (λ (r : Row). r ∷ drop (i + 1) more) (sym is)))

  pub rules_next : (names : List ℕ) (f : ℕ) (rows : List Row) (rules : List Rule) (i : ℕ)
      (rule : Rule) → i < length rules → rule ≡ get_or rules i rule →
      taken n (taken n rows (rows_of_rule names f rule))
      (flat_map (rows_of_rule names f) (drop (i + 1) rules))
      ≡ taken n rows (flat_map (rows_of_rule names f) (drop i rules))
  rules_next names f rows rules i rule there is =
      taken_append rows (rows_of_rule names f rule)
      (flat_map (rows_of_rule names f) (drop (i + 1) rules)) ∙
      sym (ap (λ (rs : List Rule). taken n rows (flat_map (rows_of_rule names f) rs))
      (drop_more rules i rule there ∙ ap (λ (r : Rule). r ∷ drop (i + 1) rules) (sym is)))

-- one list more
pub lists_next : (names : List ℕ) (rules : List Rule) (goal : Equation) (lists : List (List Row))
    (infos : List SymInfo) (i : ℕ) (info : SymInfo) → i < length infos → info ≡ get_or infos i info
    → (lists ++ candidates names rules goal i info.arity ∷ []) ++
    candidates_from names rules goal (i + 1) (drop (i + 1) infos)
    ≡ lists ++ candidates_from names rules goal i (drop i infos)
lists_next names rules goal lists infos i info there is =
    append_assoc lists (candidates names rules goal i info.arity ∷ [])
    (candidates_from names rules goal (i + 1) (drop (i + 1) infos)) ∙
    sym (ap (λ (rest : List SymInfo). lists ++ candidates_from names rules goal i rest)
    (drop_more infos i info there ∙ ap (λ (x : SymInfo). x ∷ drop (i + 1) infos) (sym is)))
