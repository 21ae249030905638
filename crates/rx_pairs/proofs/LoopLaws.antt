-- The pairs of a well made rule set are of its symbols, and its loop points are what has a path to
-- itself.
use Rattle.std.proofs.Common.{◌≡◌, ◌∙◌, ap, sym, subst, refl, arith, ℕ, zero, suc, ◌+◌, ◌<◌, ◌≤◌, Bool, true, false, ◌&&◌, nat_eq, ◌↔◌, inl, inr, Option, Some, None, Vec, List, [], ◌∷◌, ◌++◌, get_or, length, map, slice_get}
use Rattle.std.proofs.lemmas.Bool.{and_from, and_parts, cases_lt, eq-eqb, eqb-true, false≢true}
use Rattle.std.proofs.lemmas.List.{get_or_append_left, get_or_past, get_or_push, length-map, map-append}
use Rattle.std.proofs.lemmas.List.Elements.{All-append, All-cons, All-head, All-nil, All-tail, All-weaker}
use Rattle.std.proofs.lemmas.Option.{none-some}
use Rattle.std.specs.Cmp.{both_ways}
use Rattle.std.specs.Option.{option_map_or}
use Rattle.std.specs.Prelude.{All}
use Rattle.std.specs.declared.alloc.Global.{Global}
use Rattle.rx_graph.specs.Components.{AreComponents}
use Rattle.rx_graph.specs.Graph.{IsGraphOf, IsOver, More, One, Path, below, reaches, rows_of}
use Rattle.rx_graph.proofs.ComponentLaws.{Joined, joined_same, joined_together, label_within, same_together, together_joined}
use Rattle.rx_graph.proofs.Elements.{same_at}
use Rattle.rx_graph.proofs.GraphLaws.{lead_below, reaches_all}
use Rattle.rx_term.specs.Fitting.{is_alike, is_declared, term_fits}
use Rattle.rx_term.specs.WellMade.{IsMade, IsWellMade}
use Rattle.rx_term.specs.declared.rule.Rule.{Rule}
use Rattle.rx_term.specs.declared.rule_set.RuleParts.{RuleParts}
use Rattle.rx_term.specs.declared.rule_set.SymInfo.{SymInfo}
use Rattle.rx_term.specs.declared.term.Sym.{Sym}
use Rattle.rx_term.specs.declared.term.Term.{Term}
use Rattle.rx_term.specs.declared.term.Term.TheVariants.{Call, Frame}
use Rattle.rx_term.proofs.Equations.{fits-Call, fits-Frame}
use Rattle.rx_pairs.specs.Graph.{IsLoopPoint, edges_of, may_loop}
use Rattle.rx_pairs.specs.Listed.{pairs_by_all}
use Rattle.rx_pairs.specs.Loops.{AreLoopsOf, in_one_component, is_loop_point, rule_edges}
use Rattle.rx_pairs.specs.Pairs.{AreAllPairs, AreParts, ArePairs, AtCall, AtFail, AtFrame, AtReturn, Common, IsRoot, NoRules, OfCall, OfFrame, OneMore, PairsOf, Part, SidesFit, pair_of, part}
use Rattle.rx_pairs.specs.declared.loops.Loops.{Loops}
use Rattle.rx_pairs.specs.declared.pair.Pair.{Pair}
use Rattle.rx_pairs.proofs.ListedLaws.{all_listed}
use Rattle.rx_pairs.proofs.PairsLaws.{made_roots}

some_within : {A : Type 0} (xs : List A) (i : ℕ) (x : A) → slice_get xs i ≡ Some x → i < length xs
some_within [] i x there = absurd (none-some x there)
some_within (y ∷ ys) zero x there = omega arith
some_within (y ∷ ys) (suc i) x there = let h = some_within ys i x there in omega (arith, h)

module _ (parts : RuleParts) where
  -- a symbol that is declared is one of the set's
  declared_within : (f : Sym) (frame : Bool) (n : ℕ) → is_declared parts.symbols f frame n ≡ true →
      f.0 < length parts.symbols
  declared_within f frame n declared = by_info (slice_get parts.symbols f.0) refl declared where
    by_info : (o : Option SymInfo) → slice_get parts.symbols f.0 ≡ o →
        option_map_or (λ (s : SymInfo). is_alike s.frame frame && nat_eq s.arity n) o false ≡ true →
        f.0 < length parts.symbols
    by_info None there e = absurd (false≢true e)
    by_info (Some info) there e = some_within parts.symbols f.0 info there

  abbrev IsWithin : Part → Type 0
  IsWithin p = p.symbol.0 < length parts.symbols

  root_within : (t : Term) (root : Part) → IsRoot t root → term_fits parts t ≡ true → IsWithin root
  root_within _ _ (OfCall f ps) fits =
      declared_within f false (length ps) (sym (fits-Call parts f ps) ∙ fits)
  root_within _ _ (OfFrame f ps t) fits =
      declared_within f true (length ps) (and_parts (is_declared parts.symbols f true (length ps))
      (term_fits parts t) (sym (fits-Frame parts f ps t) ∙ fits)).0

  parts_within : (left t : Term) (ps : List Part) → AreParts left t ps → term_fits parts t ≡ true →
      All IsWithin ps
  parts_within left t _ (Common _ under) fits = All-nil IsWithin
  parts_within left _ _ (AtReturn p) fits = All-nil IsWithin
  parts_within left _ _ (AtFail c) fits = All-nil IsWithin
  parts_within left _ _ (AtCall f ps differs) fits =
      All-cons IsWithin (part f ps) [] (root_within (Call f ps) (part f ps) (OfCall f ps) fits)
      (All-nil IsWithin)
  parts_within left _ _ (AtFrame f ps t rest differs inner) fits =
      let both = and_parts (is_declared parts.symbols f true (length ps)) (term_fits parts t)
      (sym (fits-Frame parts f ps t) ∙ fits) in
      All-cons IsWithin (part f ps) rest (root_within (Frame f ps t) (part f ps) (OfFrame f ps t)
      fits) (parts_within left t rest inner both.1)

  abbrev EdgeWithin : ℕ × ℕ → Type 0
  EdgeWithin e = (e.0 < length parts.symbols) × (e.1 < length parts.symbols)

  edges_within : (rule : Rule) (root : Part) → IsWithin root → (ps : List Part) → All IsWithin ps →
      IsOver (length parts.symbols) (edges_of (map (pair_of rule root) ps))
  edges_within rule root here [] all = All-nil EdgeWithin
  edges_within rule root here (p ∷ ps) all =
      All-cons EdgeWithin (root.symbol.0, p.symbol.0) (edges_of (map (pair_of rule root) ps))
      (here, All-head IsWithin p ps all)
      (edges_within rule root here ps (All-tail IsWithin p ps all))

  pairs_within : (rule : Rule) (pairs : List Pair) → ArePairs rule pairs → SidesFit parts rule →
      IsOver (length parts.symbols) (edges_of pairs)
  pairs_within rule _ (PairsOf root is ps are) fit =
      edges_within rule root (root_within rule.left root is fit.0) ps
      (parts_within rule.left rule.right ps are fit.1)

  pub all_within : (rules : List Rule) (pairs : List Pair) → AreAllPairs rules pairs →
      All (SidesFit parts) rules → IsOver (length parts.symbols) (edges_of pairs)
  all_within _ _ NoRules fit = All-nil EdgeWithin
  all_within _ _ (OneMore rule rules pairs others are rest) fit =
      subst (IsOver (length parts.symbols)) (sym
      (map-append (λ (p : Pair). (p.left.0, p.right.0)) pairs others))
      (All-append EdgeWithin (edges_of pairs) (edges_of others)
      (pairs_within rule pairs are (All-head (SidesFit parts) rule rules fit))
      (all_within rules others rest (All-tail (SidesFit parts) rule rules fit)))

  pub rules_within : IsWellMade parts → IsOver (length parts.symbols) (rule_edges parts)
  rules_within made =
      all_within parts.rules (pairs_by_all parts.rules)
      (all_listed parts.rules (made_roots parts parts.rules made))
      (All-weaker (IsMade parts) (SidesFit parts) (λ rule m. (m.left_fits, m.right_fits))
      parts.rules made)

  from_info : (f : ℕ) (o : Option SymInfo) → slice_get parts.symbols f ≡ o →
      option_map_or may_loop o false ≡ true → Path (rule_edges parts) f f
      → IsLoopPoint parts.symbols (rule_edges parts) f
  from_info f None there e path = absurd (false≢true e)
  from_info f (Some info) there e path = (info, there, e, path)

  -- a loop point is an entry or a head that reaches itself
  pub loop_points : IsWellMade parts → (f : ℕ) →
      (is_loop_point parts f ≡ true) ↔ IsLoopPoint parts.symbols (rule_edges parts) f
  loop_points made f =
      let path = reaches_all (length parts.symbols) (rule_edges parts) (rules_within made) f f in
      let may = option_map_or may_loop (slice_get parts.symbols f) false in
      let reached = reaches (rule_edges parts) (below (length parts.symbols)) f f in (
        λ e. let both =
            and_parts may reached e in from_info f (slice_get parts.symbols f) refl both.0
            (path.0 both.1),
        λ point. and_from may reached (ap (λ (o : Option SymInfo). option_map_or may_loop o false)
            point.1 ∙ point.2) (path.1 point.3),
      )

-- ---- loops in memory

path_starts : (n : ℕ) (edges : List (ℕ × ℕ)) → IsOver n edges → (a b : ℕ) → Path edges a b → a < n
path_starts n edges over _ _ (One a b is) = (lead_below n edges over a b is).0
path_starts n edges over _ _ (More a b c is rest) = (lead_below n edges over a b is).0

module _ (parts : RuleParts) (loops : Loops) (are : AreLoopsOf parts loops) where
  abbrev name : ℕ → ℕ
  name a = get_or loops.components.items a a

  name_within : (a : ℕ) → a < length parts.symbols → get_or loops.components.items a a ≡
      get_or loops.components.items a 0
  name_within a there =
      let count = are.components_count in same_at loops.components.items a a 0
      (omega (arith, there, count))

  name_past : (a : ℕ) → length parts.symbols ≤ a → get_or loops.components.items a a ≡ a
  name_past a past =
      let count = are.components_count in get_or_past loops.components.items a a
      (omega (arith, past, count))

  same_names : (a b : ℕ) → get_or loops.components.items a a ≡ get_or loops.components.items b b →
      in_one_component parts a b ≡ true
  same_names a b same =
      let n = length parts.symbols in
      let edges = rule_edges parts in
      let ends = lead_below n edges are.over in
      elim (cases_lt a n) [
        | inl there ↦ elim (cases_lt b n) [
          | inl also ↦
              (same_together n edges ends loops.components.items are.components a b there also).0
              (sym (name_within a there) ∙ same ∙ name_within b also)
          | inr past ↦
              let low = label_within n edges ends loops.components.items are.components a there in
              let left = name_within a there in
              let right = name_past b past in
              absurd (omega (arith, same, low, left, right, past))
        ]
        | inr beyond ↦ elim (cases_lt b n) [
          | inl also ↦
              let low = label_within n edges ends loops.components.items are.components b also in
              let left = name_past a beyond in
              let right = name_within b also in
              absurd (omega (arith, same, low, left, right, beyond))
          | inr past ↦ joined_together n edges ends a b
              (inl (sym (name_past a beyond) ∙ same ∙ name_past b past))
        ]
      ]

  joined_names : (a b : ℕ) → Joined (rule_edges parts) a b → get_or loops.components.items a a ≡
      get_or loops.components.items b b
  joined_names a b (inl same) = ap (λ k. get_or loops.components.items k k) same
  joined_names a b (inr paths) =
      let n = length parts.symbols in
      let edges = rule_edges parts in
      let there = path_starts n edges are.over a b paths.0 in
      let also = path_starts n edges are.over b a paths.1 in
      name_within a there ∙ joined_same n edges (lead_below n edges are.over) loops.components.items
      are.components a b there also (inr paths) ∙ sym (name_within b also)

  -- two symbols have one name exactly where they are in one component
  pub names_tell : (a b : ℕ) → nat_eq (get_or loops.components.items a a)
      (get_or loops.components.items b b) ≡ in_one_component parts a b
  names_tell a b =
      both_ways (nat_eq (get_or loops.components.items a a) (get_or loops.components.items b b))
      (in_one_component parts a b)
      (λ is. same_names a b (eqb-true (get_or loops.components.items a a)
      (get_or loops.components.items b b) is))
      (λ is. eq-eqb (get_or loops.components.items a a) (get_or loops.components.items b b)
      (joined_names a b (together_joined (length parts.symbols) (rule_edges parts)
      (lead_below (length parts.symbols) (rule_edges parts) are.over) a b is)))

-- one more symbol
pub points_more : (P : ℕ → Type 0) (points after : List Bool) (v : Bool) (k : ℕ) → length points ≡
    k → after ≡ points ++ v ∷ []
    → ((f : ℕ) → f < k → (get_or points f false ≡ true) ↔ P f) → (v ≡ true) ↔ P k → (f : ℕ) → f <
    k + 1 → (get_or after f false ≡ true) ↔ P f
points_more P points after v k count whole before last f less = elim (cases_lt f k) [
  | inl old ↦
      let read : get_or after f false ≡ get_or points f false =
      ap (λ (ps : List Bool). get_or ps f false) whole ∙
      get_or_append_left points (v ∷ []) false f (omega (arith, old, count)) in
      let was = before f old in
      (λ is. was.0 (sym read ∙ is), λ p. read ∙ was.1 p)
  | inr past ↦
      let at : f ≡ k = omega (arith, less, past) in
      let read : get_or after f false ≡ v = ap (λ (ps : List Bool). get_or ps f false) whole ∙
      get_or_push points v false f (count ∙ sym at) in
      (λ is. subst P (sym at) (last.0 (sym read ∙ is)), λ p. read ∙ last.1 (subst P at p))
]

module _ (parts : RuleParts) (made : IsWellMade parts) (symbols : List SymInfo) (pairs : List Pair)
    (same_symbols : symbols ≡ parts.symbols)
    (same_pairs : pairs ≡ pairs_by_all parts.rules) where
  pub pairs_over : IsOver (length symbols) (edges_of pairs)
  pairs_over =
      subst (λ (ss : List SymInfo). IsOver (length ss) (edges_of pairs)) (sym same_symbols)
      (subst (λ (ps : List Pair). IsOver (length parts.symbols) (edges_of ps)) (sym same_pairs)
      (rules_within parts made))

  module _ (rows : List (Vec ℕ Global)) (graph : IsGraphOf (length symbols) (edges_of pairs)
      (rows_of rows)) where
    pub rows_count : length rows ≡ length symbols
    rows_count = sym (length-map rows (λ (r : Vec ℕ Global). r.items)) ∙ graph.count

    graph_here : IsGraphOf (length rows) (rule_edges parts) (rows_of rows)
    graph_here =
        subst (λ (ps : List Pair). IsGraphOf (length rows) (edges_of ps) (rows_of rows)) same_pairs
        (subst (λ n. IsGraphOf n (edges_of pairs) (rows_of rows)) (sym rows_count) graph)

    size : length rows ≡ length parts.symbols
    size = rows_count ∙ ap (λ (ss : List SymInfo). length ss) same_symbols

    -- what was found of that graph
    pub loops_made : (loops : Loops) → length loops.points.items ≡ length symbols
        → ((edges : List (ℕ × ℕ)) → IsGraphOf (length rows) edges (rows_of rows) → (f : ℕ) → f <
        length symbols → (get_or loops.points.items f false ≡ true) ↔ IsLoopPoint symbols edges
        f)
        → length loops.components.items ≡ length rows
        → ((edges : List (ℕ × ℕ)) → IsGraphOf (length rows) edges (rows_of rows) →
        AreComponents (length rows) edges loops.components.items)
        → AreLoopsOf parts loops
    loops_made loops points_count points components_count components = record {
      over = rules_within parts made;
      points_count = points_count ∙ ap (λ (ss : List SymInfo). length ss) same_symbols;
      points = λ f less.
          let found = subst (λ (ss : List SymInfo).
          (get_or loops.points.items f false ≡ true) ↔ IsLoopPoint ss (rule_edges parts) f)
          same_symbols
          (points (rule_edges parts) graph_here f
          (subst (λ (ss : List SymInfo). f < length ss) (sym same_symbols) less)) in
          let law = loop_points parts made f in
          both_ways (get_or loops.points.items f false) (is_loop_point parts f)
          (λ is. law.1 (found.0 is)) (λ is. found.1 (law.0 is));
      components_count = components_count ∙ size;
      components =
          subst (λ n. AreComponents n (rule_edges parts) loops.components.items) size
          (components (rule_edges parts) graph_here);
    }
