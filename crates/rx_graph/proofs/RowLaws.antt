-- Graphs in memory: one edge more, and edges reversed.
use Rattle.std.proofs.Common.{◌≡◌, ◌∙◌, ap, sym, subst, refl, arith, ℕ, zero, suc, ◌+◌, ◌<◌, ◌≤◌, ◌==◌, true, false, ◌&&◌, ◌⊎◌, inl, inr, Vec, List, [], ◌∷◌, ◌++◌, Contains, get_or, length, set, take}
use Rattle.std.proofs.lemmas.Bool.{and_from, and_parts, cases_lt, cases_order, eq-eqb, eqb-true, false≢true}
use Rattle.std.proofs.lemmas.List.{get_or-set_other, get_or-map, get_or-set_same, get_or_past, length-append, length-map, length-set, map-append, map-set, take_more}
use Rattle.std.proofs.lemmas.List.Elements.{Contains-append_left, Contains-push, Contains-push_cases}
use Rattle.std.specs.declared.alloc.Global.{Global}
use Rattle.rx_graph.specs.Graph.{IsClosed, IsGraphOf, IsOver, is_edge, leads, reversed_edges, rows_of}
use Rattle.rx_graph.specs.Rows.{HasAllFrom, HasEdge, HasOneMore}
use Rattle.rx_graph.proofs.Elements.{none_in_empty}
use Rattle.rx_graph.proofs.GraphLaws.{lead_below, or_cases, or_left, or_right}

-- ---- one more edge

last_edge : (edges : List (ℕ × ℕ)) (e : ℕ × ℕ) (a b : ℕ) → leads (edges ++ e ∷ []) a b ≡ true →
    (leads edges a b ≡ true) ⊎ (is_edge a b e ≡ true)
last_edge [] e a b is =
    elim (or_cases (is_edge a b e) false is) [
      | inl here ↦ inr here
      | inr none ↦ absurd (false≢true none)
    ]
last_edge (f ∷ edges) e a b is = elim (or_cases (is_edge a b f) (leads (edges ++ e ∷ []) a b) is) [
  | inl first ↦ inl (or_left (is_edge a b f) (leads edges a b) first)
  | inr other ↦ elim (last_edge edges e a b other) [
    | inl before ↦ inl (or_right (is_edge a b f) (leads edges a b) before)
    | inr last ↦ inr last
  ]
]

still_leads : (edges : List (ℕ × ℕ)) (e : ℕ × ℕ) (a b : ℕ) → leads edges a b ≡ true →
    leads (edges ++ e ∷ []) a b ≡ true
still_leads [] e a b is = absurd (false≢true is)
still_leads (f ∷ edges) e a b is = elim (or_cases (is_edge a b f) (leads edges a b) is) [
  | inl first ↦ or_left (is_edge a b f) (leads (edges ++ e ∷ []) a b) first
  | inr other ↦ or_right (is_edge a b f) (leads (edges ++ e ∷ []) a b)
      (still_leads edges e a b other)
]

now_leads : (edges : List (ℕ × ℕ)) (e : ℕ × ℕ) (a b : ℕ) → is_edge a b e ≡ true →
    leads (edges ++ e ∷ []) a b ≡ true
now_leads [] e a b is = or_left (is_edge a b e) false is
now_leads (f ∷ edges) e a b is =
    or_right (is_edge a b f) (leads (edges ++ e ∷ []) a b) (now_leads edges e a b is)

-- a graph with an edge more is that of the edges and the one more
pub added_graph : (rows after : List (List ℕ)) (from to : ℕ) → HasOneMore rows from to after →
    (n : ℕ) (edges : List (ℕ × ℕ)) → IsGraphOf n edges rows
    → IsGraphOf n (edges ++ (from, to) ∷ []) after
added_graph rows after from to more n edges graph = record {
  count = more.count ∙ graph.count;
  targets = λ a b. (
    λ in_row. elim (more.only a b in_row) [
      | inl old ↦ still_leads edges (from, to) a b ((graph.targets a b).0 old)
      | inr new ↦ now_leads edges (from, to) a b
          (and_from (from == a) (to == b) (eq-eqb from a (sym new.0)) (eq-eqb to b (sym new.1)))
    ],
    λ is. elim (last_edge edges (from, to) a b is) [
      | inl old ↦ more.stay a b ((graph.targets a b).1 old)
      | inr new ↦
          let both = and_parts (from == a) (to == b) new in
          subst (λ k. HasEdge after k b) (eqb-true from a both.0)
          (subst (HasEdge after from) (eqb-true to b both.1) more.there)
    ],
  );
}

-- a row with a target more
pub one_more : (rows : List (Vec ℕ Global)) (row old : Vec ℕ Global) (from to : ℕ) → from <
    length rows → old ≡ get_or rows from old → row.items ≡ old.items ++ to ∷ []
    → HasOneMore (rows_of rows) from to (rows_of (set rows from row))
one_more rows row old from to there was pushed =
    let count = length-map rows (λ (r : Vec ℕ Global). r.items) in
    let row_was : get_or (rows_of rows) from [] ≡ old.items =
    get_or-map (λ (r : Vec ℕ Global). r.items) rows from old [] there ∙
    ap (λ (r : Vec ℕ Global). r.items) (sym was) in
    let all : rows_of (set rows from row) ≡ set (rows_of rows) from row.items =
    map-set (λ (r : Vec ℕ Global). r.items) rows from row in
    let here : get_or (rows_of (set rows from row)) from [] ≡ get_or (rows_of rows) from [] ++ to ∷
    [] =
    ap (λ (rs : List (List ℕ)). get_or rs from []) all ∙
    get_or-set_same (rows_of rows) from row.items [] (omega (arith, there, count)) ∙ pushed ∙
    ap (λ (r : List ℕ). r ++ to ∷ []) (sym row_was) in
    let elsewhere : (a : ℕ) → (a ≡ from → ⊥) → get_or (rows_of (set rows from row)) a [] ≡
    get_or (rows_of rows) a [] =
    λ a differ. ap (λ (rs : List (List ℕ)). get_or rs a []) all ∙
    get_or-set_other (rows_of rows) from a row.items [] differ in
    record {
      count = ap length all ∙ length-set (rows_of rows) from row.items;
      stay = λ a b has. elim (cases_order a from) [
        | inl same ↦
            subst (λ k. HasEdge (rows_of (set rows from row)) k b) (sym same)
            (subst (λ r. Contains r b) (sym here)
            (Contains-append_left (get_or (rows_of rows) from []) (to ∷ []) b
            (subst (λ k. HasEdge (rows_of rows) k b) same has)))
        | inr apart ↦
            let differ : a ≡ from → ⊥ = λ same.
            elim apart [
              | inl less ↦ omega (arith, less, same)
              | inr more ↦ omega (arith, more, same)
            ] in
            subst (λ r. Contains r b) (sym (elsewhere a differ)) has
      ];
      there =
          subst (λ r. Contains r to) (sym here) (Contains-push (get_or (rows_of rows) from []) to);
      only = λ a b has. elim (cases_order a from) [
        | inl same ↦
            elim (Contains-push_cases (get_or (rows_of rows) from []) to b
            (subst (λ r. Contains r b) here
            (subst (λ k. HasEdge (rows_of (set rows from row)) k b) same has))) [
              | inl old ↦ inl (subst (λ k. HasEdge (rows_of rows) k b) (sym same) old)
              | inr new ↦ inr (same, sym new)
            ]
        | inr apart ↦
            let differ : a ≡ from → ⊥ = λ same.
            elim apart [
              | inl less ↦ omega (arith, less, same)
              | inr more ↦ omega (arith, more, same)
            ] in
            inl (subst (λ r. Contains r b) (elsewhere a differ) has)
      ];
    }

-- ---- graphs without edges

empty_last : (rows : List (List ℕ)) (a : ℕ) → get_or (rows ++ [] ∷ []) a [] ≡ get_or rows a []
empty_last [] zero = refl
empty_last [] (suc a) = refl
empty_last (row ∷ rows) zero = refl
empty_last (row ∷ rows) (suc a) = empty_last rows a

-- a graph without edges, with one more number
pub push_row : (n : ℕ) (rows after : List (Vec ℕ Global)) (row : Vec ℕ Global) → after ≡ rows ++
    row ∷ [] → row.items ≡ [] → IsGraphOf n [] (rows_of rows)
    → IsGraphOf (n + 1) [] (rows_of after)
push_row n rows after row pushed none before =
    let whole : rows_of rows ++ [] ∷ [] ≡ rows_of after =
    ap (λ (r : List ℕ). rows_of rows ++ r ∷ []) (sym none) ∙
    sym (map-append (λ (r : Vec ℕ Global). r.items) rows (row ∷ [])) ∙
    sym (ap rows_of pushed) in
    subst (IsGraphOf (n + 1) []) whole (record {
      count = length-append (rows_of rows) ([] ∷ []) ∙ ap (λ k. k + 1) before.count;
      targets = λ a b. (
        λ in_row. (before.targets a b).0 (subst (λ r. Contains r b) (empty_last (rows_of rows) a)
            in_row),
        λ is. absurd (false≢true is),
      );
    })

pub no_rows : IsGraphOf 0 [] (rows_of [])
no_rows =
    record {
      count = refl;
      targets = λ a b. (
        λ none. absurd (none_in_empty b none),
        λ is.
            absurd (false≢true is),
      );
    }

-- all that rows lead to are numbers of the graph
pub closed_graph : (n : ℕ) (edges : List (ℕ × ℕ)) (rows : List (List ℕ)) → IsOver n edges →
    IsGraphOf n edges rows → IsClosed rows
closed_graph n edges rows over graph a b in_row =
    let h = (lead_below n edges over a b ((graph.targets a b).0 in_row)).1 in
    let count = graph.count in
    omega (arith, h, count)

-- an edge leads from a number of the graph
pub from_within : (rows : List (List ℕ)) (a b : ℕ) → HasEdge rows a b → a < length rows
from_within rows a b has = elim (cases_lt a (length rows)) [
  | inl less ↦ less
  | inr past ↦ absurd (none_in_empty b (subst (λ r. Contains r b) (get_or_past rows a [] past) has))
]

-- so an edge of a closed graph is between numbers below its bound
pub leads_within : (n : ℕ) (edges : List (ℕ × ℕ)) (rows : List (List ℕ)) → IsGraphOf n edges rows →
    IsClosed rows → (a b : ℕ) → leads edges a b ≡ true → (a < n) × (b < n)
leads_within n edges rows graph closed a b is =
    let has = (graph.targets a b).1 is in (
      subst (λ k. a < k) graph.count (from_within rows a b has),
      subst (λ k. b < k) graph.count (closed a b has),
    )

-- ---- edges from several vertices

pub begin_all : (rows : List (List ℕ)) (to : ℕ) → HasAllFrom rows [] to rows
begin_all rows to =
    record {
      count = refl;
      stay = λ a b has. has;
      there = λ a none. absurd (none_in_empty a none);
      only = λ a b has. inl has;
    }

pub all_and_one : (rows now after : List (List ℕ)) (sources : List ℕ) (i to : ℕ) → i <
    length sources → HasAllFrom rows (take i sources) to now
    → HasOneMore now (get_or sources i 0) to after → HasAllFrom rows (take (i + 1) sources) to after
all_and_one rows now after sources i to there all one =
    let s = get_or sources i 0 in
    let more : take (i + 1) sources ≡ take i sources ++ s ∷ [] = take_more sources i 0 there in
    record {
      count = one.count ∙ all.count;
      stay = λ a b has. one.stay a b (all.stay a b has);
      there =
          λ a among. elim (Contains-push_cases (take i sources) s a
          (subst (λ ts. Contains ts a) more among)) [
            | inl old ↦ one.stay a to (all.there a old)
            | inr new ↦ subst (λ k. HasEdge after k to) new one.there
          ];
      only = λ a b has. elim (one.only a b has) [
        | inl was ↦ elim (all.only a b was) [
          | inl before ↦ inl before
          | inr old ↦ inr (
            subst (λ ts. Contains ts a) (sym more)
                (Contains-append_left (take i sources) (s ∷ []) a old.0),
            old.1,
          )
        ]
        | inr new ↦ inr (
          subst (λ ts. Contains ts a) (sym more)
              (subst (Contains (take i sources ++ s ∷ [])) (sym new.0)
              (Contains-push (take i sources) s)),
          new.1,
        )
      ];
    }

-- ---- edges reversed

-- the edges from the first n vertices, reversed
pub record Turned (rows : List (List ℕ)) (i : ℕ) (back : List (List ℕ)) : Type 0 where
  pub has : (a b : ℕ) → a < i → HasEdge rows a b → HasEdge back b a
  pub only : (a b : ℕ) → HasEdge back b a → (a < i) × HasEdge rows a b

pub begin_reversed : (n : ℕ) (rows back : List (List ℕ)) → IsGraphOf n [] back → Turned rows 0 back
begin_reversed n rows back graph = record {
  has = λ a b less has. absurd (omega (arith, less));
  only = λ a b has. absurd (false≢true ((graph.targets b a).0 has));
}

pub turn_more : (rows back after : List (List ℕ)) (i : ℕ) (targets : List ℕ) → targets ≡
    get_or rows i [] → Turned rows i back → HasAllFrom back targets i after
    → Turned rows (i + 1) after
turn_more rows back after i targets row before all = record {
  has = λ a b less has. elim (cases_lt a i) [
    | inl old ↦ all.stay b a (before.has a b old has)
    | inr last ↦
        let at : a ≡ i = omega (arith, less, last) in
        subst (HasEdge after b) (sym at) (all.there b
        (subst (λ r. Contains r b) (sym row) (subst (λ k. HasEdge rows k b) at has)))
  ];
  only = λ a b has. elim (all.only b a has) [
    | inl was ↦ let (less, there) = before.only a b was in (omega (arith, less), there)
    | inr new ↦ let at =
        new.1 in (
          omega (arith, at),
          subst (λ k. HasEdge rows k b) (sym at)
              (subst (λ r. Contains r b) row new.0),
        )
  ];
}

pub leads_back : (edges : List (ℕ × ℕ)) (a b : ℕ) → leads edges a b ≡ true →
    leads (reversed_edges edges) b a ≡ true
leads_back [] a b is = absurd (false≢true is)
leads_back (e ∷ edges) a b is = elim (or_cases (is_edge a b e) (leads edges a b) is) [
  | inl first ↦
      let both = and_parts (e.0 == a) (e.1 == b) first in
      or_left (e.1 == b && e.0 == a) (leads (reversed_edges edges) b a)
      (and_from (e.1 == b) (e.0 == a) both.1 both.0)
  | inr other ↦ or_right (e.1 == b && e.0 == a) (leads (reversed_edges edges) b a)
      (leads_back edges a b other)
]

pub leads_forth : (edges : List (ℕ × ℕ)) (a b : ℕ) → leads (reversed_edges edges) b a ≡ true →
    leads edges a b ≡ true
leads_forth [] a b is = absurd (false≢true is)
leads_forth (e ∷ edges) a b is =
    elim (or_cases (e.1 == b && e.0 == a) (leads (reversed_edges edges) b a) is) [
      | inl first ↦
          let both = and_parts (e.1 == b) (e.0 == a) first in
          or_left (is_edge a b e) (leads edges a b) (and_from (e.0 == a) (e.1 == b) both.1 both.0)
      | inr other ↦ or_right (is_edge a b e) (leads edges a b) (leads_forth edges a b other)
    ]

-- where all vertices were taken, it is the graph of the edges reversed
pub reversed_graph : (n : ℕ) (edges : List (ℕ × ℕ)) (rows back : List (List ℕ)) (i : ℕ) → n ≤ i →
    length back ≡ n → Turned rows i back → IsGraphOf n edges rows
    → IsGraphOf n (reversed_edges edges) back
reversed_graph n edges rows back i all count turned graph = record {
  count = count;
  targets = λ a b. (
    λ has. leads_back edges b a ((graph.targets b a).0 (turned.only b a has).1),
    λ is.
        let has = (graph.targets b a).1 (leads_forth edges b a is) in
        let within = from_within rows b a has in
        let size = graph.count in
        turned.has b a (omega (arith, within, size, all)) has,
  );
}

pub reversed_closed : (rows back : List (List ℕ)) (i : ℕ) → i ≤ length back → Turned rows i back →
    IsClosed back
reversed_closed rows back i few turned a b has =
    let less = (turned.only b a has).0 in omega (arith, less, few)

pub empty_closed : (n : ℕ) (rows : List (List ℕ)) → IsGraphOf n [] rows → IsClosed rows
empty_closed n rows graph a b has = absurd (false≢true ((graph.targets a b).0 has))

-- graphs in memory with equally many rows
pub same_count : (rows after : List (Vec ℕ Global)) → length (rows_of after) ≡
    length (rows_of rows) → length after ≡ length rows
same_count rows after same =
    sym (length-map after (λ (r : Vec ℕ Global). r.items)) ∙ same ∙
    length-map rows (λ (r : Vec ℕ Global). r.items)
