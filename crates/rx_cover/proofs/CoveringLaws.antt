-- Lists of trees against the symbols: one turn of the walk, and what it means that all are covered.
use Rattle.std.proofs.Common.{◌≡◌, ◌∙◌, ap, subst, sym, refl, cond, arith, ℕ, zero, suc, ◌+◌, ◌==◌, ◌≤◌, ◌<◌, Bool, true, false, ◌&&◌, Option, Some, None, Result, Ok, Err, OnOk, List, [], ◌∷◌, length, drop, slice_get, ℤ}
use Rattle.std.specs.Prelude.{nat_eq, nat_le}
use Rattle.std.specs.Option.{option_map_or}
use Rattle.std.proofs.lemmas.Bool.{and_parts, eqb-false, eqb-true, leb-true}
use Rattle.std.proofs.lemmas.Option.{none-some, same_Some, slice_get_within}
use Rattle.rx_cert.proofs.FindingLaws.{both_parts}
use Rattle.rx_cert.specs.Findings.{Said, Yes, No, Beyond, and_also}
use Rattle.rx_row.specs.Holds.{AllHold}
use Rattle.rx_row.specs.declared.row.Row.{Row}
use Rattle.rx_term.proofs.ShapeLaws.{alike}
use Rattle.rx_term.specs.Covered.{HasRule, IsCoveredOver}
use Rattle.rx_term.specs.Domains.{domain_of, root_domains}
use Rattle.rx_term.specs.Fitting.{is_alike, is_declared}
use Rattle.rx_term.specs.Paired.{PointShape, ReturnShape, FailShape}
use Rattle.rx_term.specs.Shapes.{Shape, Return, Fail, Call, Frame}
use Rattle.rx_term.specs.declared.rule.Rule.{Rule}
use Rattle.rx_term.specs.declared.rule_set.RuleParts.{RuleParts}
use Rattle.rx_term.specs.declared.rule_set.SymInfo.{SymInfo}
use Rattle.rx_term.specs.declared.term.Sym.{Sym}
use Rattle.rx_cover.specs.Answers.{Tells}
use Rattle.rx_cover.specs.Covering.{Covering, Covers, Fails, covering, covering_from, goes_on, in_turn, one_covered, over_failures, redex_shapes, shape_count, symbol, symbol_finding}
use Rattle.rx_cover.specs.Trees.{tree_finding}
use Rattle.rx_cover.specs.declared.cover_end.CoverEnd.{CoverEnd}
use Rattle.rx_cover.specs.declared.cover_end.CoverEnd.TheVariants.{NotCovered, Large, NoMemory}
use Rattle.rx_cover.specs.declared.cover_tree.CoverTree.{CoverTree}
use Rattle.rx_term.proofs.Places.{from_end, from_nowhere, from_place}
use Rattle.rx_cover.proofs.TreeLaws.{tree_covers}

-- ---- one turn

module _ (parts : RuleParts) (f : ℕ) (lists : List (List CoverTree)) (trees : List CoverTree)
    (next : slice_get lists f ≡ Some trees) where
  abbrev rest : Covering
  rest = covering_from parts (f + 1) (drop (f + 1) parts.symbols) (drop (f + 1) lists)

  by_symbol : (o : Option SymInfo) → slice_get parts.symbols f ≡ o
      → covering_from parts f (drop f parts.symbols) (trees ∷ drop (f + 1) lists) ≡
      goes_on f (symbol_finding parts f o trees) rest
  by_symbol None none =
      ap (λ infos. covering_from parts f infos (trees ∷ drop (f + 1) lists))
      (from_nowhere parts.symbols f none)
  by_symbol (Some info) some =
      ap (λ infos. covering_from parts f infos (trees ∷ drop (f + 1) lists))
      (from_place parts.symbols f info some)

  -- the symbol and the list of one turn decide, and then the others
  pub one_turn : covering_from parts f (drop f parts.symbols) (drop f lists) ≡
      goes_on f (one_covered parts f trees) rest
  one_turn =
      ap (covering_from parts f (drop f parts.symbols)) (from_place lists f trees next) ∙
      by_symbol (slice_get parts.symbols f) refl

  -- where the turn's answer is that the symbol is covered, the others decide
  pub turn_covered : goes_on f (one_covered parts f trees) Covers ≡ Covers
      → rest ≡ covering_from parts f (drop f parts.symbols) (drop f lists)
  turn_covered e = sym (one_turn ∙ by_found (one_covered parts f trees) e) where
    by_found : (found : Said) → goes_on f found Covers ≡ Covers → goes_on f found rest ≡ rest
    by_found Beyond e = cc
    by_found Yes e = refl
    by_found No e = cc

  -- and there is such a symbol
  pub turn_there : goes_on f (one_covered parts f trees) Covers ≡ Covers → f + 1 ≤
      length parts.symbols
  turn_there e = by_place (slice_get parts.symbols f) refl e where
    by_place : (o : Option SymInfo) → slice_get parts.symbols f ≡ o →
        goes_on f (symbol_finding parts f o trees) Covers ≡ Covers → f + 1 ≤ length parts.symbols
    by_place None none e = cc
    by_place (Some info) some e =
        let h = slice_get_within parts.symbols f info some in omega (arith, h)

  -- where it is another, that is the answer for all
  pub turn_ends : (e : CoverEnd) → Tells (goes_on f (one_covered parts f trees) Covers) (Err e) →
      Tells (covering_from parts f (drop f parts.symbols) (drop f lists)) (Err e)
  turn_ends e told =
      subst (λ c. Tells c (Err e)) (sym one_turn) (by_found e (one_covered parts f trees) told)
    where
      by_found : (e : CoverEnd) (found : Said) → Tells (goes_on f found Covers) (Err e) →
          Tells (goes_on f found rest) (Err e)
      by_found (NotCovered g) Beyond told = cc
      by_found (NotCovered g) Yes told = cc
      by_found (NotCovered g) No told = told
      by_found (Large g) Beyond told = told
      by_found (Large g) Yes told = cc
      by_found (Large g) No told = cc
      by_found NoMemory found told = tt

-- with no lists left, a symbol that is left is not covered
pub lists_end : (parts : RuleParts) (f : ℕ) → f < length parts.symbols →
    covering_from parts f (drop f parts.symbols) [] ≡ Fails f
lists_end parts f there = by_symbol (slice_get parts.symbols f) refl where
  by_symbol : (o : Option SymInfo) → slice_get parts.symbols f ≡ o →
      covering_from parts f (drop f parts.symbols) [] ≡ Fails f
  by_symbol None none = let no = from_end parts.symbols f none in absurd (omega (arith, no, there))
  by_symbol (Some info) some =
      ap (λ infos. covering_from parts f infos []) (from_place parts.symbols f info some)

-- ---- trees in turn

module _ (rules : List Rule) (path : List Row) (shape : Shape) (shapes : List Shape)
    (trees : List CoverTree) (tree : CoverTree) (others : List CoverTree)
    (is : trees ≡ tree ∷ others) where
  -- where the first tree passes the limits, so does the turn
  pub first_beyond : tree_finding rules shape tree path ≡ Beyond →
      in_turn rules path (shape ∷ shapes) trees ≡ Beyond
  first_beyond e =
      ap (in_turn rules path (shape ∷ shapes)) is ∙
      ap (λ found. and_also found (in_turn rules path shapes others)) e

  -- where it shows its shape, the others decide
  pub first_shows : tree_finding rules shape tree path ≡ Yes →
      in_turn rules path (shape ∷ shapes) trees ≡ in_turn rules path shapes others
  first_shows e =
      ap (in_turn rules path (shape ∷ shapes)) is ∙
      ap (λ found. and_also found (in_turn rules path shapes others)) e

-- ---- what is covered

module _ (parts : RuleParts) where
  -- a list of trees that covers the symbol with that number
  abbrev Listed : ℕ → SymInfo → Type 0
  Listed f info = (trees : List CoverTree) × (symbol_finding parts f (Some info) trees ≡ Yes)

  -- each of the symbols has one
  abbrev AllListed : ℕ → List SymInfo → Type 0
  AllListed f infos = (i : ℕ) (info : SymInfo) → slice_get infos i ≡ Some info → Listed (f + i) info

  one_more : (f : ℕ) (first : SymInfo) (infos : List SymInfo) (trees : List CoverTree)
      (rest : Covering) → (rest ≡ Covers → AllListed (f + 1) infos)
      → (found : Said) → symbol_finding parts f (Some first) trees ≡ found → goes_on f found rest ≡
      Covers → AllListed f (first ∷ infos)
  one_more f first infos trees rest others Beyond is e i info there = cc
  one_more f first infos trees rest others No is e i info there = cc
  one_more f first infos trees rest others Yes is e zero info there =
      let number : f ≡ f + zero = omega arith in
      subst (λ k. Listed k info) number (
        trees,
        ap (λ s. symbol_finding parts f (Some s) trees) (sym (same_Some first info there)) ∙ is,
      )
  one_more f first infos trees rest others Yes is e (suc i) info there =
      let number : (f + 1) + i ≡ f + suc i = omega arith in
      subst (λ k. Listed k info) number (others e i info there)

  pub each_covered : (f : ℕ) (infos : List SymInfo) (lists : List (List CoverTree)) →
      covering_from parts f infos lists ≡ Covers → AllListed f infos
  each_covered f [] lists e i info there = absurd (none-some info there)
  each_covered f (first ∷ infos) [] e i info there = cc
  each_covered f (first ∷ infos) (trees ∷ lists) e i info there =
      one_more f first infos trees (covering_from parts (f + 1) infos lists)
      (each_covered (f + 1) infos lists)
      (symbol_finding parts f (Some first) trees) refl e i info there

module _ (rules : List Rule) (path : List Row) where
  -- where trees show their shapes in turn, each shape has a rule wherever the path's rows hold
  first_shown : (shape : Shape) (shapes : List Shape) (trees : List CoverTree) →
      in_turn rules path (shape ∷ shapes) trees ≡ Yes → (a : ℕ → ℤ) → AllHold a path →
      HasRule rules shape a
  first_shown shape shapes [] e a holds = cc
  first_shown shape shapes (tree ∷ trees) e a holds =
      tree_covers rules shape a tree path (both_parts (tree_finding rules shape tree path)
      (in_turn rules path shapes trees) e).0 holds

  others_shown : (shape : Shape) (shapes : List Shape) (trees : List CoverTree) →
      in_turn rules path (shape ∷ shapes) trees ≡ Yes
      → (others : List CoverTree) × (in_turn rules path shapes others ≡ Yes)
  others_shown shape shapes [] e = cc
  others_shown shape shapes (tree ∷ trees) e = (
    trees,
    (both_parts (tree_finding rules shape tree path) (in_turn rules path shapes trees) e).1,
  )

  failure_shown : (f : Sym) (from n c : ℕ) (trees : List CoverTree) →
      in_turn rules path (over_failures f from n) trees ≡ Yes
      → from ≤ c → c < from + n → (a : ℕ → ℤ) → AllHold a path → HasRule rules (Frame f (Fail c)) a
  failure_shown f from zero c trees e low high a holds = absurd (omega (arith, low, high))
  failure_shown f from (suc n) c trees e low high a holds =
      let others = others_shown (Frame f (Fail from)) (over_failures f (from + 1) n) trees e in
      by_code (failure_shown f (from + 1) n c others.0 others.1) (nat_eq from c) refl
    where
      by_code : (from + 1 ≤ c → c < (from + 1) + n → (a : ℕ → ℤ) → AllHold a path →
          HasRule rules (Frame f (Fail c)) a)
          → (b : Bool) → nat_eq from c ≡ b → HasRule rules (Frame f (Fail c)) a
      by_code next true is =
          subst (λ k. HasRule rules (Frame f (Fail k)) a) (eqb-true from c is)
          (first_shown (Frame f (Fail from)) (over_failures f (from + 1) n) trees e a holds)
      by_code next false is =
          let differs = eqb-false from c is in
          next (omega (arith, low, differs)) (omega (arith, high)) a holds

  turn_of : (count : ℕ) (shapes : List Shape) (trees : List CoverTree) →
      cond (length trees == count) (in_turn rules path shapes trees) No ≡ Yes →
      in_turn rules path shapes trees ≡ Yes
  turn_of count shapes trees e = by_count (length trees == count) e where
    by_count : (b : Bool) → cond b (in_turn rules path shapes trees) No ≡ Yes →
        in_turn rules path shapes trees ≡ Yes
    by_count true h = h
    by_count false h = cc

module _ (parts : RuleParts) (lists : List (List CoverTree)) (all : covering parts lists ≡ Covers)
  where
    -- a declared symbol is covered as what it is declared, from its domain on
    declared_covered : (f : Sym) (frame : Bool) (n : ℕ) → is_declared parts.symbols f frame n ≡ true
        → (trees : List CoverTree) × (in_turn parts.rules (domain_of parts f.0)
        (redex_shapes f frame parts.fails) trees ≡ Yes)
    declared_covered f frame n declared = by_info (slice_get parts.symbols f.0) refl declared where
      by_info : (o : Option SymInfo) → slice_get parts.symbols f.0 ≡ o
          → option_map_or (λ (s : SymInfo). is_alike s.frame frame && nat_eq s.arity n) o false ≡
          true
          → (trees : List CoverTree) × (in_turn parts.rules (domain_of parts f.0)
          (redex_shapes f frame parts.fails) trees ≡ Yes)
      by_info None there e = cc
      by_info (Some info) there e =
          let number : 0 + f.0 ≡ f.0 = omega arith in
          let one : Listed parts f.0 info = subst (λ k. Listed parts k info) number
          (each_covered parts 0 parts.symbols lists all f.0 info there) in
          let kind = alike info.frame frame (and_parts (is_alike info.frame frame)
          (nat_eq info.arity n) e).0 in
          let shown = turn_of parts.rules (domain_of parts f.0)
          (shape_count info.frame parts.fails) (redex_shapes (symbol f.0) info.frame parts.fails)
          one.0 one.1 in (
            one.0,
            subst (λ b. in_turn parts.rules (domain_of parts f.0) (redex_shapes f b parts.fails)
                one.0 ≡ Yes) kind shown,
          )

    -- all symbols are covered: so is the rule set, at all arguments that meet the domains
    pub covers_all : IsCoveredOver (root_domains parts) parts
    covers_all _ (PointShape f n declared) a domain =
        let one = declared_covered f false n declared in
        first_shown parts.rules (domain_of parts f.0) (Call f) [] one.0 one.1 a domain
    covers_all _ (ReturnShape f n declared) a domain =
        let one = declared_covered f true n declared in
        first_shown parts.rules (domain_of parts f.0) (Frame f Return)
        (over_failures f 1 parts.fails) one.0 one.1 a domain
    covers_all _ (FailShape f n c declared fits) a domain =
        let one = declared_covered f true n declared in
        let others = others_shown parts.rules (domain_of parts f.0) (Frame f Return)
        (over_failures f 1 parts.fails) one.0 one.1 in
        let both = and_parts (nat_le 1 c) (nat_le c parts.fails) fits in
        let low = leb-true 1 c both.0 in
        let high = leb-true c parts.fails both.1 in
        failure_shown parts.rules (domain_of parts f.0) f 1 parts.fails c others.0 others.1 low
        (omega (arith, high)) a domain

-- the same of an answer
pub answer_covered : (parts : RuleParts) (lists : List (List CoverTree))
    (r : Result (Unit {0}) CoverEnd) → Tells (covering parts lists) r
    → OnOk r (IsCoveredOver (root_domains parts) parts)
answer_covered parts lists (Ok u) told = covers_all parts lists told
answer_covered parts lists (Err e) told = tt
