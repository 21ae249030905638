-- A pass that leaves as many rows as there were leaves the lists as they are, and each row of them
-- is kept at each occurrence. The passes end with such a one.
use Rattle.std.proofs.Common.{◌≡◌, ◌≢◌, sym, subst, refl, arith, ℕ, zero, suc, ◌≤◌, Bool, true, false, if◌then◌else◌, List, Contains}
use Rattle.std.specs.List.{All}
use Rattle.std.proofs.lemmas.Bool.{eqb-false, eqb-true}
use Rattle.std.proofs.lemmas.List.Elements.{All-contains_itself}
use Rattle.rx_row.specs.declared.row.Row.{Row}
use Rattle.rx_pairs.specs.Pairs.{Part}
use Rattle.rx_term.specs.declared.rule.Equation.{Equation}
use Rattle.rx_term.specs.declared.rule_set.RuleParts.{RuleParts}
use Rattle.rx_find_domains.specs.Finding.{at_occurrence, at_part, at_row, count_rows, given_rows, is_kept, leaves_all, list_of, pass, passes, without}
use Rattle.rx_find_domains.specs.Parts.{Asking, all_askings}
use Rattle.rx_find_domains.specs.declared.given.Given.{Given}
use Rattle.rx_find_domains.proofs.DroppingLaws.{without_fewer, without_lowers}
use Rattle.rx_find_domains.proofs.Settling.{IsSettling, fold_lowers, fold_same}

-- ---- each row, occurrence and part

-- the row is one of the symbol's
abbrev pub IsListed : Part → List (List Row) → Row → Type 0
IsListed at lists row = Contains (list_of lists at.symbol.0) row

-- it is kept there
abbrev pub RowKept : Given → Part → List (List Row) → Row → Type 0
RowKept given at lists row = is_kept (given_rows given lists) at.arguments row ≡ true

-- all rows of the symbol are
abbrev pub OccurrenceKept : Given → List (List Row) → Part → Type 0
OccurrenceKept given lists at = All (RowKept given at lists) (list_of lists at.symbol.0)

-- at all occurrences
abbrev pub PartKept : List (List Row) → Asking → Type 0
PartKept lists asking = All (OccurrenceKept asking.given lists) asking.occurrences

row_settles : (given : Given) (at : Part) →
    IsSettling count_rows (at_row given at) (IsListed at) (RowKept given at)
row_settles given at = record {
  lowers = λ lists row. row_lowers lists row (is_kept (given_rows given lists) at.arguments row);
  same = λ lists row among e.
      row_same lists row (is_kept (given_rows given lists) at.arguments row) refl among e;
} where
  row_lowers : (lists : List (List Row)) (row : Row) (b : Bool) →
      count_rows (if b then lists else without lists at.symbol.0 row) ≤ count_rows lists
  row_lowers lists row true = omega arith
  row_lowers lists row false = without_lowers lists at.symbol.0 row

  row_same : (lists : List (List Row)) (row : Row) (b : Bool) →
      is_kept (given_rows given lists) at.arguments row ≡ b → IsListed at lists row →
      count_rows (if b then lists else without lists at.symbol.0 row) ≡ count_rows lists →
      ((if b then lists else without lists at.symbol.0 row) ≡ lists) × RowKept given at lists row
  row_same lists row true is among e = (refl, is)
  row_same lists row false is among e =
      let fewer = without_fewer lists at.symbol.0 row among in absurd (omega (arith, e, fewer))

occurrence_settles : (given : Given) →
    IsSettling count_rows (at_occurrence given) (λ lists at. Unit {0}) (OccurrenceKept given)
occurrence_settles given = record {
  lowers = λ lists at.
      fold_lowers count_rows (at_row given at) (IsListed at) (RowKept given at)
      (row_settles given at) lists (list_of lists at.symbol.0);
  same = λ lists at any e.
      fold_same count_rows (at_row given at) (IsListed at) (RowKept given at)
      (row_settles given at) lists (list_of lists at.symbol.0)
      (All-contains_itself (list_of lists at.symbol.0)) e;
}

part_settles : IsSettling count_rows at_part (λ lists asking. Unit {0}) PartKept
part_settles = record {
  lowers = λ lists asking.
      fold_lowers count_rows (at_occurrence asking.given) (λ ls at. Unit {0})
      (OccurrenceKept asking.given) (occurrence_settles asking.given) lists asking.occurrences;
  same = λ lists asking any e.
      fold_same count_rows (at_occurrence asking.given) (λ ls at. Unit {0})
      (OccurrenceKept asking.given) (occurrence_settles asking.given) lists asking.occurrences
      (λ k d there. tt) e;
}

-- ---- passes

module _ (parts : RuleParts) (goal : Equation) where
  -- a pass leaves as many rows as there are
  abbrev pub IsSettled : List (List Row) → Type 0
  IsSettled lists = count_rows (pass parts goal lists) ≡ count_rows lists

  pub pass_lowers : (lists : List (List Row)) →
      count_rows (pass parts goal lists) ≤ count_rows lists
  pass_lowers lists =
      fold_lowers count_rows at_part (λ ls asking. Unit {0}) PartKept part_settles lists
      (all_askings parts goal)

  pub pass_same : (lists : List (List Row)) → IsSettled lists →
      (pass parts goal lists ≡ lists) × All (PartKept lists) (all_askings parts goal)
  pass_same lists e =
      fold_same count_rows at_part (λ ls asking. Unit {0}) PartKept part_settles lists
      (all_askings parts goal) (λ k d there. tt) e

  -- so many passes settle that many rows
  pub passes_settle : (n : ℕ) (lists : List (List Row)) → count_rows lists ≤ n →
      IsSettled (passes n parts goal lists)
  passes_settle zero lists few = let low = pass_lowers lists in omega (arith, low, few)
  passes_settle (suc n) lists few =
      by (leaves_all parts goal lists) refl
      (passes_settle n (pass parts goal lists)) where
        by : (b : Bool) → leaves_all parts goal lists ≡ b
            → (count_rows (pass parts goal lists) ≤ n →
            IsSettled (passes n parts goal (pass parts goal lists)))
            → IsSettled (if b then pass parts goal lists else
            passes n parts goal (pass parts goal lists))
        by true is rest =
            let level = eqb-true (count_rows (pass parts goal lists)) (count_rows lists) is in
            subst IsSettled (sym (pass_same lists level).0) level
        by false is rest =
            let low = pass_lowers lists in
            let apart : count_rows (pass parts goal lists) ≢ count_rows lists =
            eqb-false (count_rows (pass parts goal lists)) (count_rows lists) is in
            rest (omega (arith, low, apart, few))
