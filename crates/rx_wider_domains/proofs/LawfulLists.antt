-- The rows of a symbol are over its own arguments, so the lists by symbol are lawful, and so are
-- the domains that come of them.
use Rattle.std.proofs.Common.{◌≡◌, ◌∙◌, ap, refl, ℕ, zero, suc, ◌+◌, Bool, true, false, if◌then◌else◌, cond, None, Some, List, [], ◌∷◌, take}
use Rattle.std.specs.List.{filter}
use Rattle.std.proofs.lemmas.Bool.{and_from, and_parts}
use Rattle.rx_poly.specs.Variables.{uses_below}
use Rattle.rx_row.specs.Parts.{poly_of}
use Rattle.rx_row.specs.Variables.{row_uses_below, rows_use_below}
use Rattle.rx_row.specs.declared.row.Row.{Row}
use Rattle.rx_term.specs.declared.rule.Equation.{Equation}
use Rattle.rx_term.specs.declared.rule_set.RuleParts.{RuleParts}
use Rattle.rx_term.specs.declared.rule_set.SymInfo.{SymInfo}
use Rattle.rx_domain.specs.Setting.{bad_domain, bad_from}
use Rattle.rx_find_domains.specs.Groups.{groups}
use Rattle.rx_find_domains.proofs.LawfulLaws.{settled_lawful}
use Rattle.rx_wider_domains.specs.Finding.{domains_of}
use Rattle.rx_wider_domains.specs.Groups.{by_symbol, by_symbol_from, group_rows, most_rows, rows_over}

-- ---- one list

module _ (n : ℕ) where
  filtered_below : (rows : List Row) → rows_use_below n (filter (row_uses_below n) rows) ≡ true
  filtered_below [] = refl
  filtered_below (row ∷ rows) =
      by (row_uses_below n row) refl (filtered_below rows) where
        by : (b : Bool) → row_uses_below n row ≡ b
            → rows_use_below n (filter (row_uses_below n) rows) ≡ true
            → rows_use_below n (cond b (row ∷ filter (row_uses_below n) rows)
            (filter (row_uses_below n) rows)) ≡ true
        by true is rest =
            and_from (uses_below n (poly_of row))
            (rows_use_below n (filter (row_uses_below n) rows)) is rest
        by false is rest = rest

  first_below : (k : ℕ) (rows : List Row) → rows_use_below n rows ≡ true →
      rows_use_below n (take k rows) ≡ true
  first_below zero rows e = refl
  first_below (suc k) [] e = refl
  first_below (suc k) (row ∷ rows) e =
      let both = and_parts (uses_below n (poly_of row)) (rows_use_below n rows) e in
      and_from (uses_below n (poly_of row)) (rows_use_below n (take k rows)) both.0
      (first_below k rows both.1)

-- ---- a list for each symbol

module _ (names : List ℕ) (lists : List (List Row)) where
  from_lawful : (f : ℕ) (infos : List SymInfo) →
      bad_from f infos (by_symbol_from names lists f infos) ≡ None
  from_lawful f [] = refl
  from_lawful f (info ∷ infos) =
      ap (λ (b : Bool). if b then bad_from (f + 1) infos
      (by_symbol_from names lists (f + 1) infos) else Some f)
      (first_below info.arity most_rows (rows_over names lists f info.arity)
      (filtered_below info.arity (group_rows names lists f))) ∙
      from_lawful (f + 1) infos

pub by_symbol_lawful : (parts : RuleParts) (lists : List (List Row)) →
    bad_domain parts.symbols (by_symbol parts lists) ≡ None
by_symbol_lawful parts lists = from_lawful (groups parts) lists 0 parts.symbols

pub domains_lawful : (parts : RuleParts) (goal : Equation) (lists : List (List Row)) →
    bad_domain parts.symbols (domains_of parts goal lists) ≡ None
domains_lawful parts goal lists =
    settled_lawful parts goal (by_symbol parts lists) (by_symbol_lawful parts lists)

-- by the names of the groups
pub by_are : (parts : RuleParts) (names : List ℕ) (infos : List SymInfo)
    (lists : List (List Row)) → names ≡ groups parts → infos ≡ parts.symbols →
    by_symbol_from names lists 0 infos ≡ by_symbol parts lists
by_are parts names infos lists named are =
    ap (λ (own : List ℕ). by_symbol_from own lists 0 infos) named ∙
    ap (by_symbol_from (groups parts) lists 0) are
