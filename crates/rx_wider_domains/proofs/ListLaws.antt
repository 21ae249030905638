-- The lists that walks make are the lists by group.
use Rattle.std.proofs.Common.{◌≡◌, ◌∙◌, ap, refl, sym, arith, ℕ, zero, suc, ◌+◌, ◌<◌, ◌==◌, Bool, true, false, if◌then◌else◌, Option, None, Some, List, [], ◌∷◌, ◌++◌, fold, flat_map, length, map, replicate, slice_get, slice_set}
use Rattle.std.proofs.lemmas.Bool.{eqb-true, eqb-false}
use Rattle.std.proofs.lemmas.List.{length-set, length-replicate}
use Rattle.std.proofs.lemmas.List.Sums.{fold-append}
use Rattle.std.specs.List.{range_with_len}
use Rattle.std.specs.Option.{option_and_then, option_map_or}
use Rattle.rx_plain.specs.Formed.{Formed}
use Rattle.rx_row.specs.declared.row.Row.{Row}
use Rattle.rx_anchors.specs.Members.{symbols_of}
use Rattle.rx_pairs.specs.Pairs.{Part}
use Rattle.rx_term.specs.Meaning.{redex_of}
use Rattle.rx_term.specs.Stacks.{root_of}
use Rattle.rx_term.specs.declared.rule.Equation.{Equation}
use Rattle.rx_term.specs.declared.rule.Rule.{Rule}
use Rattle.rx_term.specs.declared.rule_set.RuleParts.{RuleParts}
use Rattle.rx_term.specs.declared.rule_set.SymInfo.{SymInfo}
use Rattle.rx_term.specs.declared.term.Sym.{Sym}
use Rattle.rx_term.specs.declared.term.Term.{Term}
use Rattle.rx_find_domains.specs.Finding.{list_of}
use Rattle.rx_find_domains.specs.Parts.{occurrences_of}
use Rattle.rx_wider_domains.specs.Groups.{symbol_rows, taken, taken_at, taking, with_rows}
use Rattle.rx_wider_domains.specs.Lists.{goal_rows, handed, handed_by, handed_rows, if_member, listed, listed_rows, lists_by, offered, offered_at, offered_in, rule_rows, side_rows}
use Rattle.rx_wider_domains.specs.Offers.{offers}
use Rattle.rx_wider_domains.specs.Signs.{signs}
use Rattle.rx_wider_domains.specs.Walks as walk
use Rattle.rx_wider_domains.specs.declared.offering.Offering.{Offering}

-- ---- one list is changed

set_same : (lists : List (List Row)) (g : ℕ) (rows : List Row) → g < length lists →
    list_of (slice_set lists g rows) g ≡ rows
set_same [] g rows lt = absurd (omega (arith, lt))
set_same (other ∷ lists) zero rows lt = refl
set_same (other ∷ lists) (suc g) rows lt = set_same lists g rows (omega (arith, lt))

set_other : (lists : List (List Row)) (h g : ℕ) (rows : List Row) → (h ≡ g → ⊥) →
    list_of (slice_set lists h rows) g ≡ list_of lists g
set_other [] h g rows ne = refl
set_other (other ∷ lists) zero zero rows ne = absurd (ne refl)
set_other (other ∷ lists) zero (suc g) rows ne = refl
set_other (other ∷ lists) (suc h) zero rows ne = refl
set_other (other ∷ lists) (suc h) (suc g) rows ne =
    set_other lists h g rows (λ same. ne (ap suc same))

-- ---- rows are taken up by the list of a symbol's group

-- some rows, and then others
taken_both : (rows : List Row) (now later : List (Formed Row)) →
    taken (taken rows now) later ≡ taken rows (now ++ later)
taken_both rows now later = sym (fold-append taking rows now later)

module _ (names : List ℕ) where
  with_length : (lists : List (List Row)) (f : ℕ) (more : List (Formed Row)) →
      length (with_rows names lists f more) ≡ length lists
  with_length lists f more = by (slice_get names f) where
    by : (name : Option ℕ) → length (option_map_or (taken_at lists more) name lists) ≡ length lists
    by None = refl
    by (Some h) = length-set lists h (taken (list_of lists h) more)

  module _ (g : ℕ) where
    at_name : (lists : List (List Row)) (more : List (Formed Row)) (h : ℕ) → g < length lists →
        list_of (taken_at lists more h) g ≡ taken (list_of lists g) (if h == g then more else [])
    at_name lists more h lt = by (h == g) refl where
      by : (b : Bool) → (h == g) ≡ b → list_of (taken_at lists more h) g ≡
          taken (list_of lists g) (if b then more else [])
      by true is =
          ap (λ (k : ℕ). list_of (taken_at lists more k) g) (eqb-true h g is) ∙
          set_same lists g (taken (list_of lists g) more) lt
      by false is = set_other lists h g (taken (list_of lists h) more) (eqb-false h g is)

    at_symbol : (lists : List (List Row)) (more : List (Formed Row)) (f : Sym) →
        g < length lists → list_of (with_rows names lists f.0 more) g ≡
        taken (list_of lists g) (if_member names g more (Some f))
    at_symbol lists more f lt = by (slice_get names f.0) where
      by : (name : Option ℕ) → list_of (option_map_or (taken_at lists more) name lists) g ≡
          taken (list_of lists g)
          (if option_map_or (λ (h : ℕ). h == g) name false then more else [])
      by None = refl
      by (Some h) = at_name lists more h lt

    at_root : (rows : List Row) (lists : List (List Row)) (root : Option Sym) →
        g < length lists → list_of (walk.with_signs names rows lists root) g ≡
        taken (list_of lists g) (if_member names g (flat_map signs rows) root)
    at_root rows lists None lt = refl
    at_root rows lists (Some f) lt = at_symbol lists (flat_map signs rows) f lt

  root_length : (rows : List Row) (lists : List (List Row)) (root : Option Sym) →
      length (walk.with_signs names rows lists root) ≡ length lists
  root_length rows lists None = refl
  root_length rows lists (Some f) = with_length lists f.0 (flat_map signs rows)

-- ---- one step after the other

module _ {A : Type 0} (step : List (List Row) → A → List (List Row))
    (keeps : (lists : List (List Row)) (x : A) → length (step lists x) ≡ length lists) where
  fold_length : (xs : List A) (lists : List (List Row)) →
      length (fold step lists xs) ≡ length lists
  fold_length [] lists = refl
  fold_length (x ∷ xs) lists = fold_length xs (step lists x) ∙ keeps lists x

  module _ (g : ℕ) (rows : A → List (Formed Row))
      (takes : (lists : List (List Row)) (x : A) → g < length lists →
      list_of (step lists x) g ≡ taken (list_of lists g) (rows x)) where
    fold_takes : (xs : List A) (lists : List (List Row)) → g < length lists →
        list_of (fold step lists xs) g ≡ taken (list_of lists g) (flat_map rows xs)
    fold_takes [] lists lt = refl
    fold_takes (x ∷ xs) lists lt =
        let same = keeps lists x in
        fold_takes xs (step lists x) (omega (arith, same, lt)) ∙
        ap (λ (more : List Row). taken more (flat_map rows xs)) (takes lists x lt) ∙
        taken_both (list_of lists g) (rows x) (flat_map rows xs)

-- ---- the walks

module _ (names : List ℕ) where
  rule_length : (lists : List (List Row)) (rule : Rule) →
      length (walk.with_rule names lists rule) ≡ length lists
  rule_length lists rule = root_length names rule.rows lists (root_of rule.left)

  part_length : (offering : Offering) (lists : List (List Row)) (at : Part) →
      length (walk.at_occurrence names offering lists at) ≡ length lists
  part_length offering lists at = with_length names lists at.symbol.0 (offers names offering at)

  offers_length : (offering : Offering) (lists : List (List Row)) (rule : Rule) →
      length (walk.at_rule names offering lists rule) ≡ length lists
  offers_length offering lists rule =
      fold_length (walk.at_occurrence names offering) (part_length offering)
      (occurrences_of rule.right) lists

  all_length : (offering : Offering) (rules : List Rule) (lists : List (List Row)) →
      length (walk.at_rules names offering rules lists) ≡ length lists
  all_length offering rules lists =
      fold_length (walk.at_rule names offering) (offers_length offering) rules lists

  side_length : (goal : Equation) (lists : List (List Row)) (t : Term) →
      length (walk.with_side names goal lists t) ≡ length lists
  side_length goal lists t =
      root_length names goal.rows lists (option_and_then root_of (redex_of t))

  goal_length : (goal : Equation) (lists : List (List Row)) →
      length (walk.with_goal names goal lists) ≡ length lists
  goal_length goal lists =
      side_length goal (walk.with_side names goal lists goal.left) goal.right ∙
      side_length goal lists goal.left

  handing_length : (infos : List SymInfo) (before lists : List (List Row)) (rule : Rule) →
      length (walk.handing names infos before lists rule) ≡ length lists
  handing_length infos before lists rule = by (root_of rule.left) where
    by : (root : Option Sym) → length (option_map_or (λ (f : Sym).
        walk.at_rule names (Offering.Handed f (symbol_rows names infos before f.0)) lists rule)
        root lists) ≡ length lists
    by None = refl
    by (Some f) =
        offers_length (Offering.Handed f (symbol_rows names infos before f.0)) lists rule

  module _ (g : ℕ) where
    rule_takes : (lists : List (List Row)) (rule : Rule) → g < length lists →
        list_of (walk.with_rule names lists rule) g ≡
        taken (list_of lists g) (rule_rows names g rule)
    rule_takes lists rule lt = at_root names g rule.rows lists (root_of rule.left) lt

    part_takes : (offering : Offering) (lists : List (List Row)) (at : Part) →
        g < length lists → list_of (walk.at_occurrence names offering lists at) g ≡
        taken (list_of lists g) (offered_at names g offering at)
    part_takes offering lists at lt = at_symbol names g lists (offers names offering at) at.symbol lt

    offers_take : (offering : Offering) (lists : List (List Row)) (rule : Rule) →
        g < length lists → list_of (walk.at_rule names offering lists rule) g ≡
        taken (list_of lists g) (offered_in names g offering rule)
    offers_take offering lists rule lt =
        fold_takes (walk.at_occurrence names offering) (part_length offering) g
        (offered_at names g offering) (part_takes offering) (occurrences_of rule.right) lists lt

    all_take : (offering : Offering) (rules : List Rule) (lists : List (List Row)) →
        g < length lists → list_of (walk.at_rules names offering rules lists) g ≡
        taken (list_of lists g) (offered names g offering rules)
    all_take offering rules lists lt =
        fold_takes (walk.at_rule names offering) (offers_length offering) g
        (offered_in names g offering) (offers_take offering) rules lists lt

    side_takes : (goal : Equation) (lists : List (List Row)) (t : Term) → g < length lists →
        list_of (walk.with_side names goal lists t) g ≡
        taken (list_of lists g) (side_rows names g goal t)
    side_takes goal lists t lt =
        at_root names g goal.rows lists (option_and_then root_of (redex_of t)) lt

    goal_takes : (goal : Equation) (lists : List (List Row)) → g < length lists →
        list_of (walk.with_goal names goal lists) g ≡
        taken (list_of lists g) (goal_rows names g goal)
    goal_takes goal lists lt =
        let one = walk.with_side names goal lists goal.left in
        let same = side_length goal lists goal.left in
        side_takes goal one goal.right (omega (arith, same, lt)) ∙
        ap (λ (rows : List Row). taken rows (side_rows names g goal goal.right))
        (side_takes goal lists goal.left lt) ∙
        taken_both (list_of lists g) (side_rows names g goal goal.left)
        (side_rows names g goal goal.right)

    handing_takes : (infos : List SymInfo) (before lists : List (List Row)) (rule : Rule) →
        g < length lists → list_of (walk.handing names infos before lists rule) g ≡
        taken (list_of lists g) (handed_by names g infos before rule)
    handing_takes infos before lists rule lt = by (root_of rule.left) where
      by : (root : Option Sym) → list_of (option_map_or (λ (f : Sym).
          walk.at_rule names (Offering.Handed f (symbol_rows names infos before f.0)) lists rule)
          root lists) g ≡ taken (list_of lists g) (option_map_or (λ (f : Sym).
          offered_in names g (Offering.Handed f (symbol_rows names infos before f.0)) rule)
          root [])
      by None = refl
      by (Some f) =
          offers_take (Offering.Handed f (symbol_rows names infos before f.0)) lists rule lt

-- ---- a list for each symbol

none_there : (n g : ℕ) → list_of (replicate n []) g ≡ []
none_there zero g = refl
none_there (suc n) zero = refl
none_there (suc n) (suc g) = none_there n g

each_from : (at : ℕ → List Row) (k : ℕ) (lists : List (List Row)) →
    ((i : ℕ) → i < length lists → list_of lists i ≡ at (k + i)) →
    lists ≡ map at (range_with_len k (length lists))
each_from at k [] are = refl
each_from at k (rows ∷ lists) are =
    let first : k + 0 ≡ k = omega arith in
    let some : 0 < length (rows ∷ lists) = omega arith in
    ap (λ (one : List Row). one ∷ lists) (are 0 some ∙ ap at first) ∙
    ap (λ (more : List (List Row)). at k ∷ more) (each_from at (k + 1) lists later) where
      later : (i : ℕ) → i < length lists → list_of lists i ≡ at (k + 1 + i)
      later i lt =
          let next : k + suc i ≡ k + 1 + i = omega arith in
          are (suc i) (omega (arith, lt)) ∙ ap at next

each_symbol : (at : ℕ → List Row) (n : ℕ) (lists : List (List Row)) → length lists ≡ n →
    ((g : ℕ) → g < length lists → list_of lists g ≡ at g) → lists ≡ map at (symbols_of n)
each_symbol at n lists many are =
    each_from at 0 lists (λ i lt.
    (let same : i ≡ 0 + i = omega arith in are i lt ∙ ap at same)) ∙
    ap (λ (m : ℕ). map at (range_with_len 0 m)) many

-- ---- all

module _ (names : List ℕ) (parts : RuleParts) where
  abbrev numbers_after : List (List Row) → List (List Row)
  numbers_after = walk.at_rules names Offering.Numbers parts.rules

  abbrev equations_after : List (List Row) → List (List Row)
  equations_after = walk.at_rules names Offering.Equations parts.rules

  abbrev rules_after : List (List Row) → List (List Row)
  rules_after lists = fold (walk.with_rule names) lists parts.rules

  listed_length : (goal : Equation) →
      length (walk.offers_listed names parts goal) ≡ length parts.symbols
  listed_length goal =
      let none = walk.no_rows parts.symbols in
      let first = walk.with_goal names goal none in
      all_length names Offering.Equations parts.rules (numbers_after (rules_after first)) ∙
      all_length names Offering.Numbers parts.rules (rules_after first) ∙
      fold_length (walk.with_rule names) (rule_length names) parts.rules first ∙
      goal_length names goal none ∙
      length-replicate (length parts.symbols) []

  -- the rows that follow one another in a list
  in_turn : (a b c d : List (Formed Row)) →
      taken (taken (taken (taken [] a) b) c) d ≡ taken [] (a ++ (b ++ (c ++ d)))
  in_turn a b c d =
      taken_both (taken (taken [] a) b) c d ∙
      taken_both (taken [] a) b (c ++ d) ∙
      taken_both [] a (b ++ (c ++ d))

  module _ (goal : Equation) (g : ℕ) (lt : g < length (walk.offers_listed names parts goal)) where
    abbrev no_lists : List (List Row)
    no_lists = walk.no_rows parts.symbols

    abbrev goal_first : List (List Row)
    goal_first = walk.with_goal names goal no_lists

    abbrev rules_next : List (List Row)
    rules_next = rules_after goal_first

    listed_at : list_of (walk.offers_listed names parts goal) g ≡ listed_rows names g parts goal
    listed_at =
        let goals = goal_length names goal no_lists in
        let rules = fold_length (walk.with_rule names) (rule_length names) parts.rules goal_first in
        let numbers = all_length names Offering.Numbers parts.rules rules_next in
        let equations =
        all_length names Offering.Equations parts.rules (numbers_after rules_next) in
        all_take names g Offering.Equations parts.rules (numbers_after rules_next)
        (omega (arith, equations, lt)) ∙
        ap (λ (rows : List Row). taken rows (offered names g Offering.Equations parts.rules))
        (all_take names g Offering.Numbers parts.rules rules_next
        (omega (arith, numbers, equations, lt)) ∙
        ap (λ (rows : List Row). taken rows (offered names g Offering.Numbers parts.rules))
        (fold_takes (walk.with_rule names) (rule_length names) g (rule_rows names g)
        (rule_takes names g) parts.rules goal_first
        (omega (arith, rules, numbers, equations, lt)) ∙
        ap (λ (rows : List Row). taken rows (flat_map (rule_rows names g) parts.rules))
        (goal_takes names g goal no_lists (omega (arith, goals, rules, numbers, equations, lt)) ∙
        ap (λ (rows : List Row). taken rows (goal_rows names g goal))
        (none_there (length parts.symbols) g)))) ∙
        in_turn (goal_rows names g goal) (flat_map (rule_rows names g) parts.rules)
        (offered names g Offering.Numbers parts.rules)
        (offered names g Offering.Equations parts.rules)

  handed_length : (lists : List (List Row)) →
      length (walk.handed_on names parts lists) ≡ length lists
  handed_length lists =
      fold_length (walk.handing names parts.symbols lists)
      (handing_length names parts.symbols lists) parts.rules lists

  handed_at : (lists : List (List Row)) (g : ℕ) → g < length lists →
      list_of (walk.handed_on names parts lists) g ≡ handed_rows names g parts lists
  handed_at lists g lt =
      fold_takes (walk.handing names parts.symbols lists)
      (handing_length names parts.symbols lists) g (handed_by names g parts.symbols lists)
      (handing_takes names g parts.symbols lists) parts.rules lists lt

  listed_are : (goal : Equation) → walk.offers_listed names parts goal ≡ listed names parts goal
  listed_are goal =
      each_symbol (λ g. listed_rows names g parts goal) (length parts.symbols)
      (walk.offers_listed names parts goal) (listed_length goal) (listed_at goal)

  handed_are : (lists : List (List Row)) → length lists ≡ length parts.symbols →
      walk.handed_on names parts lists ≡ handed names parts lists
  handed_are lists many =
      let same = handed_length lists in
      each_symbol (λ g. handed_rows names g parts lists) (length parts.symbols)
      (walk.handed_on names parts lists) (same ∙ many)
      (λ g lt. handed_at lists g (omega (arith, same, lt)))

  pub walks_are : (goal : Equation) → walk.walked names parts goal ≡ lists_by names parts goal
  walks_are goal =
      let first = walk.offers_listed names parts goal in
      let second = walk.handed_on names parts first in
      handed_are second (handed_length first ∙ listed_length goal) ∙
      ap (handed names parts)
      (handed_are first (listed_length goal) ∙ ap (handed names parts) (listed_are goal))
