-- The candidates are a list for each symbol, over its arguments; and dropping rows keeps it.
use Rattle.std.proofs.Common.{◌≡◌, ◌∙◌, ap, refl, ℕ, zero, suc, ◌+◌, nat_lt, Bool, true, false, if◌then◌else◌, cond, None, Some, List, [], ◌∷◌, ◌++◌, length, set}
use Rattle.std.specs.List.{filter, fold}
use Rattle.std.proofs.lemmas.Bool.{and_from, and_parts}
use Rattle.std.proofs.lemmas.List.Folds.{list_all-append}
use Rattle.rx_poly.specs.Variables.{uses_below}
use Rattle.rx_row.specs.Membership.{stands_among}
use Rattle.rx_row.specs.Parts.{poly_of}
use Rattle.rx_row.specs.Variables.{row_uses_below, rows_use_below}
use Rattle.rx_row.specs.declared.row.Row.{Row}
use Rattle.rx_pairs.specs.Pairs.{Part}
use Rattle.rx_term.specs.declared.rule.Equation.{Equation}
use Rattle.rx_term.specs.declared.rule.Rule.{Rule}
use Rattle.rx_term.specs.declared.rule_set.RuleParts.{RuleParts}
use Rattle.rx_term.specs.declared.rule_set.SymInfo.{SymInfo}
use Rattle.rx_domain.specs.Setting.{bad_domain, bad_from}
use Rattle.rx_find_domains.specs.Candidates.{all_candidates, candidates_from, most_candidates, offered, taken, taking}
use Rattle.rx_find_domains.specs.Finding.{at_occurrence, at_part, at_row, count_rows, given_rows, is_kept, leaves_all, list_of, pass, passes, settled, without}
use Rattle.rx_find_domains.specs.Groups.{groups}
use Rattle.rx_find_domains.specs.Parts.{Asking, all_askings}
use Rattle.rx_find_domains.specs.declared.given.Given.{Given}
use Rattle.rx_find_domains.proofs.DroppingLaws.{differs}
use Rattle.rx_find_domains.proofs.Settling.{fold_keeps}

-- ---- one list

-- some of the rows are over those arguments where all are
some_below : (n : ℕ) (test : Row → Bool) (rows : List Row) → rows_use_below n rows ≡ true →
    rows_use_below n (filter test rows) ≡ true
some_below n test [] e = refl
some_below n test (row ∷ rows) e =
    let both = and_parts (uses_below n (poly_of row)) (rows_use_below n rows) e in
    by (test row) both.0 (some_below n test rows both.1)
  where
    by : (b : Bool) → uses_below n (poly_of row) ≡ true
        → rows_use_below n (filter test rows) ≡ true
        → rows_use_below n (cond b (row ∷ filter test rows) (filter test rows)) ≡ true
    by true first rest =
        and_from (uses_below n (poly_of row)) (rows_use_below n (filter test rows)) first rest
    by false first rest = rest

-- one more row
taking_below : (n : ℕ) (rows : List Row) (row : Row) → rows_use_below n rows ≡ true →
    row_uses_below n row ≡ true → rows_use_below n (taking rows row) ≡ true
taking_below n rows row e f =
    by (nat_lt (length rows) most_candidates) (stands_among rows row) where
      by : (few known : Bool) →
          rows_use_below n (if few then (if known then rows else rows ++ row ∷ []) else rows) ≡ true
      by true true = e
      by true false =
          list_all-append (λ (r : Row). uses_below n (poly_of r)) rows (row ∷ []) ∙
          and_from (rows_use_below n rows) (rows_use_below n (row ∷ [])) e
          (and_from (uses_below n (poly_of row)) true f refl)
      by false known = e

taken_below : (n : ℕ) (rows more : List Row) → rows_use_below n rows ≡ true →
    rows_use_below n (taken n rows more) ≡ true
taken_below n rows [] e = e
taken_below n rows (row ∷ more) e =
    by (row_uses_below n row) refl
    (λ rs f. taken_below n rs more f)
  where
    by : (b : Bool) → row_uses_below n row ≡ b
        → ((rs : List Row) → rows_use_below n rs ≡ true → rows_use_below n (taken n rs more) ≡ true)
        → rows_use_below n (fold taking rows (cond b (row ∷ filter (row_uses_below n) more)
        (filter (row_uses_below n) more))) ≡ true
    by true is rest = rest (taking rows row) (taking_below n rows row e is)
    by false is rest = rest rows e

-- ---- a list for each symbol

module _ (names : List ℕ) (rules : List Rule) (goal : Equation) where
  candidates_lawful : (f : ℕ) (infos : List SymInfo) →
      bad_from f infos (candidates_from names rules goal f infos) ≡ None
  candidates_lawful f [] = refl
  candidates_lawful f (info ∷ infos) =
      ap (λ (b : Bool). if b then bad_from (f + 1) infos
      (candidates_from names rules goal (f + 1) infos) else Some f)
      (taken_below info.arity [] (offered names rules goal f) refl) ∙
      candidates_lawful (f + 1) infos

-- another list in place of one, over the same arguments
module _ (test : Row → Bool) where
  some_lawful : (k : ℕ) (infos : List SymInfo) (lists : List (List Row)) (f : ℕ) →
      bad_from k infos lists ≡ None →
      bad_from k infos (set lists f (filter test (list_of lists f))) ≡ None
  some_lawful k infos [] f e = e
  some_lawful k [] (rows ∷ lists) f e = absurd (cc)
  some_lawful k (info ∷ infos) (rows ∷ lists) zero e =
      by (rows_use_below info.arity rows) refl e
    where
      by : (b : Bool) → rows_use_below info.arity rows ≡ b
          → (if b then bad_from (k + 1) infos lists else Some k) ≡ None
          → bad_from k (info ∷ infos) (filter test rows ∷ lists) ≡ None
      by true is e =
          ap (λ (c : Bool). if c then bad_from (k + 1) infos lists else Some k)
          (some_below info.arity test rows is) ∙ e
      by false is e = absurd (cc)
  some_lawful k (info ∷ infos) (rows ∷ lists) (suc f) e =
      by (rows_use_below info.arity rows) refl e (some_lawful (k + 1) infos lists f)
    where
      by : (b : Bool) → rows_use_below info.arity rows ≡ b
          → (if b then bad_from (k + 1) infos lists else Some k) ≡ None
          → (bad_from (k + 1) infos lists ≡ None →
          bad_from (k + 1) infos (set lists f (filter test (list_of lists f))) ≡ None)
          → bad_from k (info ∷ infos) (rows ∷ set lists f (filter test (list_of lists f))) ≡ None
      by true is e rest =
          ap (λ (c : Bool). if c then
          bad_from (k + 1) infos (set lists f (filter test (list_of lists f))) else Some k) is ∙
          rest e
      by false is e rest = absurd (cc)

-- ---- passes

module _ (infos : List SymInfo) where
  abbrev IsLawful : List (List Row) → Type 0
  IsLawful lists = bad_domain infos lists ≡ None

  row_lawful : (given : Given) (at : Part) (lists : List (List Row)) (row : Row) →
      IsLawful lists → IsLawful (at_row given at lists row)
  row_lawful given at lists row here =
      by (is_kept (given_rows given lists) at.arguments row) where
        by : (b : Bool) → IsLawful (if b then lists else without lists at.symbol.0 row)
        by true = here
        by false = some_lawful (differs row) 0 infos lists at.symbol.0 here

  occurrence_lawful : (given : Given) (lists : List (List Row)) (at : Part) → IsLawful lists →
      IsLawful (at_occurrence given lists at)
  occurrence_lawful given lists at here =
      fold_keeps IsLawful (at_row given at) (row_lawful given at) lists
      (list_of lists at.symbol.0) here

  part_lawful : (lists : List (List Row)) (asking : Asking) → IsLawful lists →
      IsLawful (at_part lists asking)
  part_lawful lists asking here =
      fold_keeps IsLawful (at_occurrence asking.given) (occurrence_lawful asking.given) lists
      asking.occurrences here

  pass_lawful : (parts : RuleParts) (goal : Equation) (lists : List (List Row)) →
      IsLawful lists → IsLawful (pass parts goal lists)
  pass_lawful parts goal lists here =
      fold_keeps IsLawful at_part part_lawful lists (all_askings parts goal) here

  passes_lawful : (n : ℕ) (parts : RuleParts) (goal : Equation) (lists : List (List Row)) →
      IsLawful lists → IsLawful (passes n parts goal lists)
  passes_lawful zero parts goal lists here = here
  passes_lawful (suc n) parts goal lists here =
      by (leaves_all parts goal lists)
      (passes_lawful n parts goal (pass parts goal lists) (pass_lawful parts goal lists here)) where
        by : (b : Bool) → IsLawful (passes n parts goal (pass parts goal lists)) →
            IsLawful (if b then pass parts goal lists else
            passes n parts goal (pass parts goal lists))
        by true rest = pass_lawful parts goal lists here
        by false rest = rest

pub settled_lawful : (parts : RuleParts) (goal : Equation) (lists : List (List Row)) →
    bad_domain parts.symbols lists ≡ None →
    bad_domain parts.symbols (settled parts goal lists) ≡ None
settled_lawful parts goal lists here =
    passes_lawful parts.symbols (count_rows lists) parts goal lists here

pub all_lawful : (parts : RuleParts) (goal : Equation) →
    bad_domain parts.symbols (all_candidates parts goal) ≡ None
all_lawful parts goal = candidates_lawful (groups parts) parts.rules goal 0 parts.symbols
