-- A paired set without domains is coverable: the one rule without rows is used at once; of two rules the one's
-- row is split by, unless it or its negation follows from nothing, and then each branch has a
-- rule whose row is the path's.
use Rattle.std.proofs.Common.{◌≡◌, ◌∙◌, ap, sym, subst, refl, cond, arith, ℕ, zero, suc, ◌+◌, ◌≤◌, Bool, true, false, not, ◌&&◌, ◌||◌, nat_eq, nat_le, Option, Some, None, unwrap_or, List, [], ◌∷◌, slice_get}
use Rattle.std.specs.List.{find}
use Rattle.std.specs.Option.{option_map_or, option_or}
use Rattle.std.proofs.lemmas.Bool.{and_from, eq-eqb}
use Rattle.rx_term.proofs.Written.{alike_itself}
use Rattle.rx_row.proofs.Membership.{contains-stands}
use Rattle.rx_row.specs.Membership.{stands_among}
use Rattle.rx_row.specs.Negation.{negation, negation_within}
use Rattle.rx_row.specs.declared.row.Row.{Row}
use Rattle.rx_cert.specs.Conditions.{is_evident, is_plain_row}
use Rattle.rx_cert.specs.Findings.{Said, Yes, No, Beyond, and_also}
use Rattle.rx_cert.specs.Showing.{all_shown, negation_said, shown}
use Rattle.rx_term.specs.Domains.{domain_of}
use Rattle.rx_term.specs.Fitting.{is_alike, is_declared}
use Rattle.rx_term.specs.Paired.{IsPair, One, Two, IsPaired, IsRedexShape, PointShape, ReturnShape, FailShape, rules_of_shape}
use Rattle.rx_term.specs.Shapes.{Shape, Return, Fail, Call, Frame}
use Rattle.rx_term.specs.declared.rule.Rule.{Rule}
use Rattle.rx_term.specs.declared.rule_set.RuleParts.{RuleParts}
use Rattle.rx_term.specs.declared.rule_set.SymInfo.{SymInfo}
use Rattle.rx_term.specs.declared.term.Sym.{Sym}
use Rattle.rx_cover.specs.Covering.{over_failures, redex_shapes, symbol}
use Rattle.rx_solve.specs.Refuter.{refuted}
use Rattle.rx_find_cover.specs.Coverable.{covering_at, first_open, is_coverable, is_open, shapes_coverage, splitting, symbols_coverage, unless_used, using}
use Rattle.rx_find_cover.specs.Coverage.{Coverage, and_then, as_said, fails, formed_then, holds, noting, or_else}
use Rattle.rx_find_cover.proofs.CoverageLaws.{used_or_not}

abbrev Covered : Coverage → Type 0
Covered c = c.covered ≡ true

or_first : (f later : Coverage) → Covered f → Covered (or_else f later)
or_first f later e = ap (λ b. (cond b f (noting f.noted later)).covered) e ∙ e

or_second : (f later : Coverage) → Covered later → Covered (or_else f later)
or_second f later e = by f.covered refl where
  by : (b : Bool) → f.covered ≡ b → Covered (cond b f (noting f.noted later))
  by true is = is
  by false is = e

and_both : (f later : Coverage) → Covered f → Covered later → Covered (and_then f later)
and_both f later e h = ap (λ b. (cond b (noting f.noted later) f).covered) e ∙ h

module _ (rules : List Rule) where
  by_use : (n : ℕ) (path : List Row) → Covered (using path rules) →
      Covered (covering_at rules n path)
  by_use n path e =
      ap (λ (c : Coverage). c.covered) (used_or_not rules n path) ∙
      or_first (using path rules) (unless_used rules n path) e

  by_split : (n : ℕ) (path : List Row) → Covered (unless_used rules n path) →
      Covered (covering_at rules n path)
  by_split n path e =
      ap (λ (c : Coverage). c.covered) (used_or_not rules n path) ∙
      or_second (using path rules) (unless_used rules n path) e

-- a rule with one row is used where the row is shown
used_alone : (path : List Row) (rule : Rule) (row : Row) → rule.rows ≡ row ∷ [] →
    shown refuted path row ≡ Yes → Covered (as_said (all_shown refuted path rule.rows))
used_alone path rule row is e =
    ap (λ rs. (as_said (all_shown refuted path rs)).covered) is ∙
    ap (λ s. (as_said (and_also s Yes)).covered) e

-- a row is shown where it is the path's
shown_itself : (row : Row) → shown refuted (row ∷ []) row ≡ Yes
shown_itself row =
    let stands : stands_among (row ∷ []) row ≡ true =
    contains-stands (row ∷ []) row 0 (omega arith) refl in
    ap (λ b. cond (b || is_evident row) Yes (negation_said refuted (row ∷ []) row)) stands

-- a row that isn't shown isn't plain
not_plain : (path : List Row) (row : Row) (s : Said) → shown refuted path row ≡ s → (s ≡ Yes → ⊥) →
    is_plain_row path row ≡ false
not_plain path row s is not_yes = by (is_plain_row path row) refl where
  by : (b : Bool) → is_plain_row path row ≡ b → b ≡ false
  by false e = refl
  by true e = absurd (not_yes (sym is ∙ ap (λ b. cond b Yes (negation_said refuted path row)) e))

module _ (r q : Rule) (row : Row) (first : r.rows ≡ row ∷ []) (second : q.rows ≡ negation row ∷ [])
  where
    abbrev two : List Rule
    two = r ∷ q ∷ []

    use_first : (path : List Row) → shown refuted path row ≡ Yes → Covered (using path two)
    use_first path e =
        or_first (as_said (all_shown refuted path r.rows)) (using path (q ∷ []))
        (used_alone path r row first e)

    use_second : (path : List Row) → shown refuted path (negation row) ≡ Yes →
        Covered (using path two)
    use_second path e =
        or_second (as_said (all_shown refuted path r.rows)) (using path (q ∷ []))
        (or_first (as_said (all_shown refuted path q.rows)) fails
        (used_alone path q (negation row) second e))

    -- with no rows known, a row that isn't plain is open
    open_first : is_plain_row [] row ≡ false → first_open [] two ≡ Some row
    open_first e =
        ap (λ rs. option_or (find (is_open []) rs) (first_open [] (q ∷ []))) first
        ∙ ap (λ b. option_or (cond (not (b || false)) (Some row) None) (first_open [] (q ∷ []))) e

    split_covers : (n : ℕ) → negation_within row ≡ true → is_plain_row [] row ≡ false →
        Covered (unless_used two (suc n) [])
    split_covers n keeps e =
        ap (λ o. (splitting o (covering_at two n) []).covered) (open_first e)
        ∙ and_both (covering_at two n (row ∷ []))
        (formed_then (negation_within row) (covering_at two n (negation row ∷ [])))
        (by_use two n (row ∷ []) (use_first (row ∷ []) (shown_itself row)))
        (ap (λ b. (formed_then b (covering_at two n (negation row ∷ []))).covered) keeps
        ∙ by_use two n (negation row ∷ []) (use_second (negation row ∷ [])
        (shown_itself (negation row))))

    two_cover : (n : ℕ) → negation_within row ≡ true → Covered (covering_at two (suc n) [])
    two_cover n keeps = by (shown refuted [] row) refl where
      by : (s : Said) → shown refuted [] row ≡ s → Covered (covering_at two (suc n) [])
      by Yes is = by_use two (suc n) [] (use_first [] is)
      by No is = by_split two (suc n) [] (split_covers n keeps (not_plain [] row No is (λ e. cc)))
      by Beyond is =
          by_split two (suc n) [] (split_covers n keeps (not_plain [] row Beyond is (λ e. cc)))

-- a pair of rules has a tree
pub pair_covers : (n : ℕ) (rules : List Rule) → IsPair rules →
    Covered (covering_at rules (suc n) [])
pair_covers n _ (One r e) =
    by_use (r ∷ []) (suc n) [] (or_first (as_said (all_shown refuted [] r.rows)) fails
    (ap (λ rs. (as_said (all_shown refuted [] rs)).covered) e))
pair_covers n _ (Two r q row e f w) = two_cover r q row e f n w

module _ (parts : RuleParts) (paired : IsPaired parts) (none : parts.domains ≡ []) where
  one_shape : (shape : Shape) → IsRedexShape parts shape →
      Covered (covering_at (rules_of_shape shape parts.rules) 32 [])
  one_shape shape is = pair_covers 31 (rules_of_shape shape parts.rules) (paired shape is)

  failures_cover : (f : Sym) (n : ℕ) → is_declared parts.symbols f true n ≡ true →
      (from count : ℕ) → 1 ≤ from → from + count ≤ parts.fails + 1 →
      Covered (shapes_coverage parts.rules [] (over_failures f from count))
  failures_cover f n declared from zero low high = refl
  failures_cover f n declared from (suc count) low high =
      let a : nat_le 1 from ≡ true = grind arith in
      let b : nat_le from parts.fails ≡ true = grind arith in
      and_both (covering_at (rules_of_shape (Frame f (Fail from)) parts.rules) 32 [])
      (shapes_coverage parts.rules [] (over_failures f (from + 1) count))
      (one_shape (Frame f (Fail from)) (FailShape f n from declared
      (and_from (nat_le 1 from) (nat_le from parts.fails) a b)))
      (failures_cover f n declared (from + 1) count (omega arith) (omega arith))

  shapes_cover : (f : Sym) (frame : Bool) (n : ℕ) → is_declared parts.symbols f frame n ≡ true →
      Covered (shapes_coverage parts.rules [] (redex_shapes f frame parts.fails))
  shapes_cover f false n declared =
      and_both (covering_at (rules_of_shape (Call f) parts.rules) 32 []) holds
      (one_shape (Call f) (PointShape f n declared)) refl
  shapes_cover f true n declared =
      and_both (covering_at (rules_of_shape (Frame f Return) parts.rules) 32 [])
      (shapes_coverage parts.rules [] (over_failures f 1 parts.fails))
      (one_shape (Frame f Return) (ReturnShape f n declared))
      (failures_cover f n declared 1 parts.fails (omega arith) (omega arith))

  declared_there : (f : ℕ) (info : SymInfo) → slice_get parts.symbols f ≡ Some info →
      is_declared parts.symbols (symbol f) info.frame info.arity ≡ true
  declared_there f info there =
      ap (λ (o : Option SymInfo). option_map_or
      (λ (s : SymInfo). is_alike s.frame info.frame && nat_eq s.arity info.arity) o false) there
      ∙ and_from (is_alike info.frame info.frame) (nat_eq info.arity info.arity)
      (alike_itself info.frame) (eq-eqb info.arity info.arity refl)

  -- the path of each symbol begins without rows
  no_domain : (f : ℕ) → domain_of parts f ≡ []
  no_domain f = ap (λ (lists : List (List Row)). unwrap_or (slice_get lists f) []) none

  from_domain : (f : ℕ) (frame : Bool) (n : ℕ) →
      is_declared parts.symbols (symbol f) frame n ≡ true →
      Covered (shapes_coverage parts.rules (domain_of parts f)
      (redex_shapes (symbol f) frame parts.fails))
  from_domain f frame n declared =
      subst (λ path. Covered (shapes_coverage parts.rules path
      (redex_shapes (symbol f) frame parts.fails))) (sym (no_domain f))
      (shapes_cover (symbol f) frame n declared)

  symbols_cover : (f : ℕ) (infos : List SymInfo) →
      ((i : ℕ) (info : SymInfo) → slice_get infos i ≡ Some info → slice_get parts.symbols (f + i) ≡
      Some info) → Covered (symbols_coverage parts f infos)
  symbols_cover f [] at = refl
  symbols_cover f (info ∷ infos) at =
      let number : f + 0 ≡ f = omega arith in
      and_both (shapes_coverage parts.rules (domain_of parts f)
      (redex_shapes (symbol f) info.frame parts.fails))
      (symbols_coverage parts (f + 1) infos)
      (from_domain f info.frame info.arity
      (declared_there f info (subst (λ k. slice_get parts.symbols k ≡ Some info) number
      (at 0 info refl))))
      (symbols_cover (f + 1) infos (λ i x there.
      let next : f + suc i ≡ (f + 1) + i = omega arith in
      subst (λ k. slice_get parts.symbols k ≡ Some x) next (at (suc i) x there)))

  pub paired_coverable : is_coverable parts ≡ true
  paired_coverable =
      symbols_cover 0 parts.symbols (λ i info there. let number : i ≡ 0 + i = omega arith in
      subst (λ k. slice_get parts.symbols k ≡ Some info) number there)
