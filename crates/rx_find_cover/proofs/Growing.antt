-- Trees, and lists of trees, that grow: those so far, and what is left, make the whole.
use Rattle.std.proofs.Common.{◌≡◌, ◌∙◌, ap, sym, subst, refl, cond, arith, ℕ, zero, suc, ◌+◌, ◌-◌, ◌<◌, Bool, true, false, Option, Some, List, [], ◌∷◌, ◌++◌, append-nil, append_assoc, drop, length, map, slice_get, length-append}
use Rattle.std.specs.List.{All, flat_map, list_all}
use Rattle.std.specs.Option.{IfSome}
use Rattle.std.specs.Prelude.{is_some, unwrap_or, ◌||◌}
use Rattle.std.proofs.lemmas.Bool.{and_parts, eq-eqb}
use Rattle.std.proofs.lemmas.List.{map-append}
use Rattle.std.proofs.lemmas.List.Folds.{list_all-append}
use Rattle.std.proofs.lemmas.List.Elements.{All-append, All-cons, All-nil, All-weaker}
use Rattle.rx_cert.specs.Findings.{Yes, No, and_also}
use Rattle.rx_cert.specs.Variables.{row_passes, rows_pass}
use Rattle.rx_row.specs.declared.row.Row.{Row}
use Rattle.rx_term.proofs.Places.{from_place}
use Rattle.rx_term.specs.Domains.{domain_of}
use Rattle.rx_term.specs.Shapes.{Shape, Fail, Frame}
use Rattle.rx_term.specs.declared.rule.Rule.{Rule}
use Rattle.rx_term.specs.declared.rule_set.RuleParts.{RuleParts}
use Rattle.rx_term.specs.declared.rule_set.SymInfo.{SymInfo}
use Rattle.rx_term.specs.declared.term.Sym.{Sym}
use Rattle.rx_cover.specs.Covering.{Covers, covering, covering_from, goes_on, in_turn, over_failures, redex_shapes, shape_count, shapes_finding, symbol}
use Rattle.rx_cover.specs.declared.cover_tree.CoverTree.{CoverTree}
use Rattle.rx_find_cover.specs.Answers.{AreSmall, AreTrees, IsCover, domain_rows, outcome}
use Rattle.rx_find_cover.specs.Coverable.{coverage, shapes_coverage, symbols_coverage}
use Rattle.rx_find_cover.specs.Coverage.{and_then, noting}
use Rattle.rx_find_cover.proofs.CoverageLaws.{and_more}
use Rattle.rx_find_cover.specs.declared.built.Built.{Built}
use Rattle.rx_cover.specs.Redexes.{shape_at}
use Rattle.rx_find_cover.specs.Trees.{IsSmall, IsTree}
use Rattle.rx_cover.specs.declared.redex.Redex.{Redex}
use Rattle.rx_cover.specs.declared.redex.Redex.TheVariants.{OverFail}

-- ---- the trees of one symbol

module _ (rules : List Rule) (path : List Row) (whole : List Shape) where
  -- trees so far, and trees for the shapes that are left, show all in turn
  pub record Growing (rest : List Shape) (trees : List CoverTree) : Type 0 where
    pub shows : (more : List CoverTree) → in_turn rules path rest more ≡ Yes →
        in_turn rules path whole (trees ++ more) ≡ Yes
    pub count : length trees + length rest ≡ length whole
    pub small : All (IsSmall rules 33 path) trees

  pub start : Growing whole []
  start = record { shows = λ more e. e; count = omega arith; small = All-nil (IsSmall rules 33 path) }

  pub grown : (shape : Shape) (rest : List Shape) (trees : List CoverTree) (tree : CoverTree) →
      Growing (shape ∷ rest) trees → IsTree rules shape 33 path tree →
      Growing rest (trees ++ tree ∷ [])
  grown shape rest trees tree g t = record {
    shows = λ more e.
        ap (in_turn rules path whole) (append_assoc trees (tree ∷ []) more)
        ∙ g.shows (tree ∷ more) (ap (λ s. and_also s (in_turn rules path rest more)) t.shows ∙ e);
    count = let c = g.count in omega (arith, length-append trees (tree ∷ []));
    small =
        All-append (IsSmall rules 33 path) trees (tree ∷ []) g.small
        (All-cons (IsSmall rules 33 path) tree [] t.small (All-nil (IsSmall rules 33 path)));
  }

  pub all_grown : (trees : List CoverTree) → Growing [] trees → AreTrees rules path whole trees
  all_grown trees g = record {
    shows = ap (in_turn rules path whole) (sym (append-nil trees)) ∙ g.shows [] refl;
    count = let c = g.count in omega arith;
    small = g.small;
  }

-- the shape that is next
pub next_shape : (f : Sym) (redexes : List Redex) (i : ℕ) (redex : Redex) → slice_get redexes i ≡
    Some redex →
    map (shape_at f) (drop i redexes) ≡ shape_at f redex ∷ map (shape_at f) (drop (i + 1) redexes)
next_shape f redexes i redex there = ap (map (shape_at f)) (from_place redexes i redex there)

-- ---- the shapes of a frame

-- one more failure
next_failure : (f : Sym) (from i n : ℕ) → i < n → over_failures f from (n - i) ≡
    Frame f (Fail from) ∷ over_failures f (from + 1) (n - (i + 1))
next_failure f from i n below =
    let e : n - i ≡ suc (n - (i + 1)) = omega arith in ap (over_failures f from) e

pub over_one : (f : Sym) (done : List Redex) (i n : ℕ) → i < n →
    map (shape_at f) (done ++ OverFail (i + 1) ∷ []) ++ over_failures f (i + 1 + 1) (n - (i + 1)) ≡
    map (shape_at f) done ++ over_failures f (i + 1) (n - i)
over_one f done i n below =
    ap (λ shapes. shapes ++ over_failures f (i + 1 + 1) (n - (i + 1)))
    (map-append (shape_at f) done (OverFail (i + 1) ∷ []))
    ∙ append_assoc (map (shape_at f) done) (Frame f (Fail (i + 1)) ∷ [])
    (over_failures f (i + 1 + 1) (n - (i + 1)))
    ∙ ap (λ shapes. map (shape_at f) done ++ shapes) (sym (next_failure f (i + 1) i n below))

-- ---- the lists of the symbols

failures_counted : (f : Sym) (from n : ℕ) → length (over_failures f from n) ≡ n
failures_counted f from zero = refl
failures_counted f from (suc n) = ap suc (failures_counted f (from + 1) n)

shapes_counted : (f : Sym) (frame : Bool) (fails : ℕ) → length (redex_shapes f frame fails) ≡
    shape_count frame fails
shapes_counted f false fails = refl
shapes_counted f true fails = let e = failures_counted f 1 fails in omega arith

-- what all rows of lists pass, those of one list do
list_passes : (test : ℕ → Bool) (lists : List (List Row)) (f : ℕ) →
    rows_pass test (flat_map (λ (rows : List Row). rows) lists) ≡ true →
    rows_pass test (unwrap_or (slice_get lists f) []) ≡ true
list_passes test [] f pass = refl
list_passes test (rows ∷ lists) f pass =
    let rest = flat_map (λ (rows : List Row). rows) lists in
    let both = and_parts (rows_pass test rows) (rows_pass test rest)
    (sym (list_all-append (row_passes test) rows rest) ∙ pass) in
    by f both.0 (λ i. list_passes test lists i both.1)
  where
    by : (f : ℕ) → rows_pass test rows ≡ true →
        ((i : ℕ) → rows_pass test (unwrap_or (slice_get lists i) []) ≡ true) →
        rows_pass test (unwrap_or (slice_get (rows ∷ lists) f) []) ≡ true
    by zero first others = first
    by (suc i) first others = others i

module _ (parts : RuleParts) where
  -- lists so far, and lists for the symbols that are left, the first having that number, cover all
  pub record Listing (f : ℕ) (rest : List SymInfo) (lists : List (List CoverTree)) : Type 0 where
    pub covers : (more : List (List CoverTree)) → covering_from parts f rest more ≡ Covers →
        covering parts (lists ++ more) ≡ Covers
    pub small : All (AreSmall parts) lists

  pub first_list : Listing 0 parts.symbols []
  first_list = record { covers = λ more e. e; small = All-nil (AreSmall parts) }

  -- a symbol's domain is among those of all
  all_small : (f : ℕ) (trees : List CoverTree) →
      All (IsSmall parts.rules 33 (domain_of parts f)) trees → AreSmall parts trees
  all_small f trees small =
      All-weaker (IsSmall parts.rules 33 (domain_of parts f))
      (IsSmall parts.rules 33 (domain_rows parts))
      (λ tree s. record {
        deep = s.deep;
        certs_deep = s.certs_deep;
        own_variables = λ test pass rules.
            s.own_variables test (list_passes test parts.domains f pass) rules;
      }) trees small

  one_finds : (f : ℕ) (frame : Bool) (trees : List CoverTree) →
      AreTrees parts.rules (domain_of parts f) (redex_shapes (symbol f) frame parts.fails) trees →
      shapes_finding parts.rules parts.fails (symbol f) frame (domain_of parts f) trees ≡ Yes
  one_finds f frame trees t =
      let count : length trees ≡ shape_count frame parts.fails = t.count ∙
      shapes_counted (symbol f) frame parts.fails in
      ap (λ b. cond b (in_turn parts.rules (domain_of parts f)
      (redex_shapes (symbol f) frame parts.fails) trees) No)
      (eq-eqb (length trees) (shape_count frame parts.fails) count)
      ∙ t.shows

  pub listed : (f : ℕ) (info : SymInfo) (rest : List SymInfo) (lists : List (List CoverTree))
      (trees : List CoverTree) → Listing f (info ∷ rest) lists →
      AreTrees parts.rules (domain_of parts f) (redex_shapes (symbol f) info.frame parts.fails)
      trees → Listing (f + 1) rest (lists ++ trees ∷ [])
  listed f info rest lists trees l t = record {
    covers = λ more e.
        ap (covering parts) (append_assoc lists (trees ∷ []) more)
        ∙ l.covers (trees ∷ more) (ap (λ s. goes_on f s (covering_from parts (f + 1) rest more))
        (one_finds f info.frame trees t) ∙ e);
    small =
        All-append (AreSmall parts) lists (trees ∷ []) l.small
        (All-cons (AreSmall parts) trees [] (all_small f trees t.small) (All-nil (AreSmall parts)));
  }

  pub all_listed : (f : ℕ) (lists : List (List CoverTree)) → Listing f [] lists →
      IsCover parts lists
  all_listed f lists l =
      record {
        covers = ap (covering parts) (sym (append-nil lists)) ∙ l.covers [] refl;
        small =
            l.small;
      }

-- ---- one turn of the walk over the symbols

module _ (parts : RuleParts) (f : ℕ) (info : SymInfo)
    (there : slice_get parts.symbols f ≡ Some info) where
  abbrev rest : List SymInfo
  rest = drop (f + 1) parts.symbols

  -- what is found of the symbol, and then of the others, is what is found of all
  pub next_symbol : (noted : Bool) (b : Built (List CoverTree)) (trees : List CoverTree) →
      outcome b ≡ shapes_coverage parts.rules (domain_of parts f)
      (redex_shapes (symbol f) info.frame parts.fails) →
      b.made ≡ Some trees → noting noted (symbols_coverage parts f (drop f parts.symbols)) ≡
      coverage parts → noting (noted || b.noted) (symbols_coverage parts (f + 1) rest) ≡
      coverage parts
  next_symbol noted b trees found is so_far =
      and_more noted (outcome b) (symbols_coverage parts (f + 1) rest) (coverage parts)
      (ap (λ c. noting noted (and_then c (symbols_coverage parts (f + 1) rest))) found
      ∙ ap (λ infos. noting noted (symbols_coverage parts f infos))
      (sym (from_place parts.symbols f info there)) ∙ so_far)
      (ap is_some is)

  pub listed_next : (lists longer : List (List CoverTree)) (made : Option (List CoverTree))
      (trees : List CoverTree) → Listing parts f (drop f parts.symbols) lists → made ≡ Some trees →
      IfSome made (AreTrees parts.rules (domain_of parts f)
      (redex_shapes (symbol f) info.frame parts.fails)) → longer ≡ lists ++ trees ∷ [] → Listing parts (f + 1) rest longer
  listed_next lists longer made trees l is t new =
      subst (Listing parts (f + 1) rest) (sym new)
      (listed parts f info rest lists trees (subst (λ infos. Listing parts f infos lists)
      (from_place parts.symbols f info there) l)
      (subst (λ o. IfSome o (AreTrees parts.rules (domain_of parts f)
      (redex_shapes (symbol f) info.frame parts.fails))) is t))
