-- Heights, raised at the vertices in the order of how many they reach.
use Rattle.std.proofs.Common.{◌≡◌, ◌∙◌, ap, sym, subst, refl, arith, ℕ, zero, suc, ◌+◌, ◌<◌, ◌≤◌, true, false, ◌⊎◌, inl, inr, Vec, List, [], ◌∷◌, ◌++◌, Contains, get_or, length, replicate, set, take}
use Rattle.std.proofs.lemmas.Bool.{cases_eq, cases_lt, false_from_ne_true, false≢true}
use Rattle.std.proofs.lemmas.List.{get_or-replicate, get_or-set_other, get_or-set_same, length-map, length-replicate, length-set, take_more}
use Rattle.std.proofs.lemmas.List.Elements.{Contains-append_left, Contains-push, Contains-push_cases}
use Rattle.std.specs.declared.alloc.Global.{Global}
use Rattle.rx_graph.specs.Components.{AreComponents}
use Rattle.rx_graph.specs.Graph.{IsClosed, IsGraphOf, IsOver, below, leads, rows_of, together}
use Rattle.rx_graph.specs.Heights.{AreHeights, ReachesHeight}
use Rattle.rx_graph.specs.Ranked.{AreRanks, HeightsTo, IsDone, IsReachCount, Raised, RaisedFrom}
use Rattle.rx_graph.specs.Rows.{HasEdge}
use Rattle.rx_graph.proofs.ComponentLaws.{joined_on, joined_same, joined_together, same_joined, together_joined}
use Rattle.rx_graph.proofs.Elements.{none_in_empty}
use Rattle.rx_graph.proofs.GraphLaws.{lead_below}
use Rattle.rx_graph.proofs.RankLaws.{counts_rank}
use Rattle.rx_graph.proofs.RowEdges.{row_edges, rows_graph}
use Rattle.rx_graph.proofs.RowLaws.{from_within, leads_within}

-- ---- one vertex

pub begin_raised : (labels : List ℕ) (own : ℕ) (heights : List ℕ) →
    Raised [] labels own heights heights
begin_raised labels own heights = record {
  count = refl;
  others = λ l differs. refl;
  up = omega arith;
  above = λ t none. absurd (none_in_empty t none);
  why = inl refl;
}

module _ (targets labels : List ℕ) (own : ℕ) (heights now : List ℕ) (i t : ℕ)
    (there : i < length targets) (is : t ≡ get_or targets i t)
    (before : Raised (take i targets) labels own heights now) where
  more : take (i + 1) targets ≡ take i targets ++ t ∷ []
  more = take_more targets i t there ∙ ap (λ k. take i targets ++ k ∷ []) (sym is)

  among_more : (s : ℕ) → Contains (take i targets) s → Contains (take (i + 1) targets) s
  among_more s among =
      subst (λ ts. Contains ts s) (sym more) (Contains-append_left (take i targets) (t ∷ []) s
      among)

  among_cases : (s : ℕ) → Contains (take (i + 1) targets) s → Contains (take i targets) s ⊎ (t ≡ s)
  among_cases s among =
      Contains-push_cases (take i targets) t s (subst (λ ts. Contains ts s) more among)

  among_last : Contains (take (i + 1) targets) t
  among_last = subst (λ ts. Contains ts t) (sym more) (Contains-push (take i targets) t)

  why_more : (after : List ℕ) → (get_or now own 0 ≡ get_or after own 0)
      → (get_or now own 0 ≡ get_or heights own 0) ⊎
      ((s : ℕ) × Contains (take i targets) s × (get_or labels s 0 ≡ own → ⊥) ×
      (get_or now own 0 ≡ suc (get_or heights (get_or labels s 0) 0)))
      → (get_or after own 0 ≡ get_or heights own 0) ⊎
      ((s : ℕ) × Contains (take (i + 1) targets) s × (get_or labels s 0 ≡ own → ⊥) ×
      (get_or after own 0 ≡ suc (get_or heights (get_or labels s 0) 0)))
  why_more after same (inl was) = inl (sym same ∙ was)
  why_more after same (inr (s, among, differs, at)) =
      inr (s, among_more s among, differs, sym same ∙ at)

  -- the height is above that of the target already, or the target has the same label
  pub raise_known : (get_or labels t 0 ≡ own) ⊎
      (get_or now (get_or labels t 0) 0 < get_or now own 0) →
      Raised (take (i + 1) targets) labels own heights now
  raise_known enough = record {
    count = before.count;
    others = before.others;
    up = before.up;
    above = λ s among differs. elim (among_cases s among) [
      | inl old ↦ before.above s old differs
      | inr same ↦ elim enough [
        | inl inner ↦ absurd (differs (ap (λ k. get_or labels k 0) (sym same) ∙ inner))
        | inr less ↦
            let label : get_or labels t 0 ≡ get_or labels s 0 = ap (λ k. get_or labels k 0) same in
            let kept = before.others (get_or labels s 0) differs in
            let at : get_or now (get_or labels t 0) 0 ≡ get_or now (get_or labels s 0) 0 =
            ap (λ k. get_or now k 0) label in
            omega (arith, less, kept, at)
      ]
    ];
    why = why_more now refl before.why;
  }

  -- or it becomes 1 more
  pub raise_new : own < length now → (get_or labels t 0 ≡ own → ⊥) → get_or now own 0 ≤
      get_or now (get_or labels t 0) 0
      → Raised (take (i + 1) targets) labels own heights
      (set now own (get_or now (get_or labels t 0) 0 + 1))
  raise_new within differs low =
      let x = get_or now (get_or labels t 0) 0 + 1 in
      let here : get_or (set now own x) own 0 ≡ x = get_or-set_same now own x 0 within in
      let kept = before.others (get_or labels t 0) differs in
      let up = before.up in
      record {
        count = length-set now own x ∙ before.count;
        others = λ l apart. get_or-set_other now own l x 0 apart ∙ before.others l apart;
        up = omega (arith, here, low, up);
        above = λ s among apart. elim (among_cases s among) [
          | inl old ↦ let less = before.above s old apart in omega (arith, less, here, low)
          | inr same ↦
              let at : get_or heights (get_or labels t 0) 0 ≡ get_or heights (get_or labels s 0) 0 =
              ap (λ k. get_or heights (get_or labels k 0) 0) same in
              omega (arith, at, here, kept)
        ];
        why = inr (t, among_last, differs, omega (arith, here, kept));
      }

-- ---- the vertices in order

pub begin_heights : (rows : List (List ℕ)) (labels counts : List ℕ) (n : ℕ) → n ≡ length rows →
    AreRanks rows labels counts → HeightsTo rows labels counts 0 0 (replicate n 0)
begin_heights rows labels counts n size ranks =
    let blank : (a : ℕ) → a < length rows → ◌≡◌ {A = ℕ}
    (get_or (replicate n 0) (get_or labels a 0) 0) 0 =
    λ a there. get_or-replicate n (get_or labels a 0) 0 0
    (let h = ranks.named a there in omega (arith, h, size)) in
    record {
      size = length-replicate n 0 ∙ size;
      falls =
          λ a b edge outside done. elim done [
            | inl less ↦ absurd (omega (arith, less))
            | inr (at, less) ↦ absurd (omega (arith, less))
          ];
      why = λ a k there is. let none = blank a there in absurd (omega (arith, is, none));
      low =
          λ a there. let none = blank a there in let some = ranks.some a there in
          omega (arith, none, some);
    }

module _ (rows : List (List ℕ)) (labels counts : List ℕ) (closed : IsClosed rows)
    (ranks : AreRanks rows labels counts) (count : ℕ) where
  -- a vertex of another count is passed over
  pub pass_over : (v : ℕ) (heights : List ℕ) → (get_or counts v 0 ≡ count → ⊥) →
      HeightsTo rows labels counts count v heights →
      HeightsTo rows labels counts count (v + 1) heights
  pass_over v heights differs before = record {
    size = before.size;
    falls = λ a b edge outside done. before.falls a b edge outside (elim done [
      | inl less ↦ inl less
      | inr (at, upto) ↦ elim (cases_lt a v) [
        | inl less ↦ inr (at, less)
        | inr past ↦ let same : a ≡ v =
            omega (arith, upto, past) in absurd
            (differs (subst (λ k. get_or counts k 0 ≡ count) same at))
      ]
    ]);
    why = before.why;
    low = before.low;
  }

  module _ (v : ℕ) (heights after : List ℕ) (there : v < length rows)
      (its : get_or counts v 0 ≡ count) (before : HeightsTo rows labels counts count v heights)
      (raised : Raised (get_or rows v []) labels (get_or labels v 0) heights after) where
    own : ℕ
    own = get_or labels v 0

    -- a vertex of the component has the count
    own_count : (a : ℕ) → a < length rows → get_or labels a 0 ≡ get_or labels v 0 →
        get_or counts a 0 ≡ count
    own_count a within same = ranks.same a v within there same ∙ its

    -- an edge out of a vertex of no greater count ends outside the component
    ends_outside : (a b : ℕ) → HasEdge rows a b → (get_or labels a 0 ≡ get_or labels b 0 → ⊥) →
        get_or counts a 0 ≤ count → get_or labels b 0 ≡ get_or labels v 0 → ⊥
    ends_outside a b edge outside upto same =
        let falls = ranks.falls a b edge outside in
        let is = own_count b (closed a b edge) same in
        omega (arith, falls, is, upto)

    done_upto : (a : ℕ) → IsDone counts count (v + 1) a → get_or counts a 0 ≤ count
    done_upto a (inl less) = omega (arith, less)
    done_upto a (inr (at, less)) = omega (arith, at)

    done_before : (a : ℕ) → (a ≡ v → ⊥) → IsDone counts count (v + 1) a → IsDone counts count v a
    done_before a differs (inl less) = inl less
    done_before a differs (inr (at, upto)) = elim (cases_lt a v) [
      | inl less ↦ inr (at, less)
      | inr past ↦ absurd (differs (omega (arith, upto, past)))
    ]

    now_falls : (a b : ℕ) → HasEdge rows a b → (get_or labels a 0 ≡ get_or labels b 0 → ⊥) →
        IsDone counts count (v + 1) a
        → get_or after (get_or labels b 0) 0 < get_or after (get_or labels a 0) 0
    now_falls a b edge outside done =
        let kept = raised.others (get_or labels b 0)
        (ends_outside a b edge outside (done_upto a done)) in
        elim (cases_eq a v) [
          | inl same ↦
              let label : get_or labels a 0 ≡ get_or labels v 0 =
              ap (λ k. get_or labels k 0) same in
              let above = raised.above b (subst (λ k. HasEdge rows k b) same edge)
              (λ inner. outside (label ∙ sym inner)) in
              let at : get_or after (get_or labels a 0) 0 ≡ get_or after (get_or labels v 0) 0 =
              ap (λ l. get_or after l 0) label in
              omega (arith, above, kept, at)
          | inr differs ↦
              let was = before.falls a b edge outside (done_before a differs done) in
              elim (cases_eq (get_or labels a 0) (get_or labels v 0)) [
                | inl label ↦
                    let up = raised.up in
                    let at : get_or after (get_or labels a 0) 0 ≡
                    get_or after (get_or labels v 0) 0 = ap (λ l. get_or after l 0) label in
                    let old : get_or heights (get_or labels a 0) 0 ≡
                    get_or heights (get_or labels v 0) 0 = ap (λ l. get_or heights l 0) label in
                    omega (arith, was, kept, up, at, old)
                | inr apart ↦ let same =
                    raised.others (get_or labels a 0) apart in omega (arith, was, kept, same)
              ]
        ]

    -- what raised a height before raises it still
    still_from : (a k : ℕ) → RaisedFrom rows labels counts count heights a k →
        RaisedFrom rows labels counts count after a k
    still_from a k one = record {
      from = one.from;
      to = one.to;
      inside = one.inside;
      edge = one.edge;
      outside = one.outside;
      upto = one.upto;
      is =
          raised.others (get_or labels one.to 0)
          (ends_outside one.from one.to one.edge one.outside one.upto) ∙ one.is;
    }

    own_why : (a k : ℕ) → get_or labels a 0 ≡ get_or labels v 0 → a < length rows →
        get_or after (get_or labels v 0) 0 ≡ suc k
        → (get_or after (get_or labels v 0) 0 ≡ get_or heights (get_or labels v 0) 0)
        ⊎ ((t : ℕ) × Contains (get_or rows v []) t × (get_or labels t 0 ≡ get_or labels v 0 → ⊥) ×
        (get_or after (get_or labels v 0) 0 ≡ suc (get_or heights (get_or labels t 0) 0)))
        → RaisedFrom rows labels counts count after a k
    own_why a k label within is (inl same) =
        still_from a k (before.why a k within (ap (λ l. get_or heights l 0) label ∙ sym same ∙ is))
    own_why a k label within is (inr (t, among, differs, at)) = record {
      from = v;
      to = t;
      inside = sym label;
      edge = among;
      outside = λ same. differs (sym same);
      upto = omega (arith, its);
      is = raised.others (get_or labels t 0) differs ∙ omega (arith, at, is);
    }

    now_why : (a k : ℕ) → a < length rows → get_or after (get_or labels a 0) 0 ≡ suc k →
        RaisedFrom rows labels counts count after a k
    now_why a k within is = elim (cases_eq (get_or labels a 0) (get_or labels v 0)) [
      | inl label ↦ own_why a k label within (ap (λ l. get_or after l 0) (sym label) ∙ is)
          raised.why
      | inr apart ↦ still_from a k (before.why a k within
          (sym (raised.others (get_or labels a 0) apart) ∙ is))
    ]

    own_low : (get_or after (get_or labels v 0) 0 ≡ get_or heights (get_or labels v 0) 0)
        ⊎ ((t : ℕ) × Contains (get_or rows v []) t × (get_or labels t 0 ≡ get_or labels v 0 → ⊥) ×
        (get_or after (get_or labels v 0) 0 ≡ suc (get_or heights (get_or labels t 0) 0)))
        → get_or after (get_or labels v 0) 0 < get_or counts v 0
    own_low (inl same) = let low = before.low v there in omega (arith, low, same)
    own_low (inr (t, among, differs, at)) =
        let low = before.low t (closed v t among) in
        let falls = ranks.falls v t among (λ same. differs (sym same)) in
        omega (arith, low, falls, at)

    now_low : (a : ℕ) → a < length rows → get_or after (get_or labels a 0) 0 < get_or counts a 0
    now_low a within = elim (cases_eq (get_or labels a 0) (get_or labels v 0)) [
      | inl label ↦
          let low = own_low raised.why in
          let equal = ranks.same a v within there label in
          let at : get_or after (get_or labels a 0) 0 ≡ get_or after (get_or labels v 0) 0 =
          ap (λ l. get_or after l 0) label in
          omega (arith, low, equal, at)
      | inr apart ↦ let same =
          raised.others (get_or labels a 0) apart in let low = before.low a within in
          omega (arith, low, same)
    ]

    -- a vertex of the count is done
    pub do_next : HeightsTo rows labels counts count (v + 1) after
    do_next =
        record {
          size = raised.count ∙ before.size;
          falls = now_falls;
          why = now_why;
          low =
              now_low;
        }

  -- when all vertices of the count are done, the next count begins
  pub next_count : (v : ℕ) (heights : List ℕ) → length rows ≤ v →
      HeightsTo rows labels counts count v heights →
      HeightsTo rows labels counts (count + 1) 0 heights
  next_count v heights all before = record {
    size = before.size;
    falls = λ a b edge outside done.
        let within = from_within rows a b edge in
        before.falls a b edge outside (elim done [
          | inr (at, none) ↦ absurd (omega (arith, none))
          | inl upto ↦ elim (cases_lt (get_or counts a 0) count) [
            | inl less ↦ inl less
            | inr past ↦ inr (omega (arith, upto, past), omega (arith, within, all))
          ]
        ]);
    why = λ a k within is.
        let one = before.why a k within is in
        let upto = one.upto in
        record {
          from = one.from;
          to = one.to;
          inside = one.inside;
          edge = one.edge;
          outside =
              one.outside;
          upto = omega (arith, upto);
          is = one.is;
        };
    low = before.low;
  }

-- ---- all vertices

module _ (edges : List (ℕ × ℕ)) (rows : List (List ℕ)) (graph : IsGraphOf (length rows) edges rows)
    (closed : IsClosed rows) (labels : List ℕ)
    (components : AreComponents (length rows) edges labels) (counts : List ℕ)
    (ranks : AreRanks rows labels counts) (raised heights : List ℕ)
    (done : HeightsTo rows labels counts (length rows + 1) 0 raised)
    (named : (a : ℕ) → a < length rows → get_or heights a 0 ≡
    get_or raised (get_or labels a 0) 0) where
  within : (a b : ℕ) → leads edges a b ≡ true → (a < length rows) × (b < length rows)
  within = leads_within (length rows) edges rows graph closed

  apart_labels : (a b : ℕ) → a < length rows → b < length rows →
      together edges (below (length rows)) a b ≡ false → get_or labels a 0 ≡ get_or labels b 0 → ⊥
  apart_labels a b there also isnt same =
      false≢true (sym isnt ∙ joined_together (length rows) edges within a b
      (same_joined (length rows) edges within labels components a b there also same))

  now_reaches : (a k : ℕ) → a < length rows →
      RaisedFrom rows labels counts (length rows + 1) raised a k →
      ReachesHeight (length rows) edges heights a k
  now_reaches a k there one =
      let from = from_within rows one.from one.to one.edge in
      let to = closed one.from one.to one.edge in
      record {
        from = one.from;
        to = one.to;
        inside =
            joined_together (length rows) edges within a one.from
            (same_joined (length rows) edges within labels components a one.from there from
            (sym one.inside));
        edge = (graph.targets one.from one.to).0 one.edge;
        outside = false_from_ne_true (together edges (below (length rows)) a one.to)
            (λ is. one.outside (one.inside ∙ joined_same (length rows) edges within labels
            components a one.to there to (together_joined (length rows) edges within a one.to
            is)));
        is = named one.to to ∙ one.is;
      }

  pub all_heights : AreHeights (length rows) edges heights
  all_heights = record {
    equal = λ a b there also is.
        named a there ∙ ap (λ l. get_or raised l 0)
        (joined_same (length rows) edges within labels components a b there also
        (together_joined (length rows) edges within a b is))
        ∙ sym (named b also);
    falls = λ a b leads_to isnt.
        let ends = within a b leads_to in
        let most = ranks.most a ends.0 in
        let less = done.falls a b ((graph.targets a b).1 leads_to)
        (apart_labels a b ends.0 ends.1 isnt) (inl (omega (arith, most))) in
        let left = named a ends.0 in
        let right = named b ends.1 in
        omega (arith, less, left, right);
    reached = λ a k there is. now_reaches a k there (done.why a k there (sym (named a there) ∙ is));
  }

  pub all_below : (a : ℕ) → a < length rows → get_or heights a 0 < length rows
  all_below a there =
      let low = done.low a there in
      let most = ranks.most a there in
      let is = named a there in
      omega (arith, low, most, is)

-- ---- there is one list of heights

module _ (n : ℕ) (edges : List (ℕ × ℕ)) (over : IsOver n edges) (heights others : List ℕ)
    (are : AreHeights n edges heights) (also : AreHeights n edges others) where
  still_outside : (a b c : ℕ) → together edges (below n) a b ≡ true → together edges (below n) a c ≡
      false → together edges (below n) b c ≡ false
  still_outside a b c inner outer =
      false_from_ne_true (together edges (below n) b c) (λ is.
      false≢true
      (sym outer
      ∙ joined_together n edges (lead_below n edges over) a c
      (joined_on edges a b c (together_joined n edges (lead_below n edges over) a b inner)
      (together_joined n edges (lead_below n edges over) b c is))))

  pub no_higher : (k a : ℕ) → a < n → get_or heights a 0 ≡ k → k ≤ get_or others a 0
  no_higher zero a there is = omega arith
  no_higher (suc k) a there is =
      let way = are.reached a k there is in
      let ends = lead_below n edges over way.from way.to way.edge in
      let low = no_higher k way.to ends.1 way.is in
      let falls = also.falls way.from way.to way.edge
      (still_outside a way.from way.to way.inside way.outside) in
      let same = also.equal a way.from there ends.0 way.inside in
      omega (arith, low, falls, same)

pub one_height : (n : ℕ) (edges : List (ℕ × ℕ)) → IsOver n edges → (heights others : List ℕ) →
    AreHeights n edges heights → AreHeights n edges others → (a : ℕ) → a < n
    → get_or heights a 0 ≡ get_or others a 0
one_height n edges over heights others are also a there =
    let low = no_higher n edges over heights others are also (get_or heights a 0) a there refl in
    let high = no_higher n edges over others heights also are (get_or others a 0) a there refl in
    omega (arith, low, high)

-- ---- graphs in memory

abbrev row_items : Vec ℕ Global → List ℕ
row_items row = row.items

module _ (items : List (Vec ℕ Global)) (closed : IsClosed (rows_of items)) (labels : List ℕ)
    (components : (edges : List (ℕ × ℕ)) → IsGraphOf (length items) edges (rows_of items) →
    AreComponents (length items) edges labels) where
  same_size : length (rows_of items) ≡ length items
  same_size = length-map items row_items

  module _ (edges : List (ℕ × ℕ)) (graph : IsGraphOf (length items) edges (rows_of items)) where
    graph_here : IsGraphOf (length (rows_of items)) edges (rows_of items)
    graph_here = subst (λ n. IsGraphOf n edges (rows_of items)) (sym same_size) graph

    components_here : AreComponents (length (rows_of items)) edges labels
    components_here =
        subst (λ n. AreComponents n edges labels) (sym same_size) (components edges graph)

  some_graph : IsGraphOf (length items) (row_edges 0 (rows_of items)) (rows_of items)
  some_graph =
      subst (λ n. IsGraphOf n (row_edges 0 (rows_of items)) (rows_of items)) same_size
      (rows_graph (rows_of items))

  -- the counts of all vertices are ranks
  pub memory_ranks : (counts : List ℕ)
      → ((edges : List (ℕ × ℕ)) → IsGraphOf (length items) edges (rows_of items) → (a : ℕ) → a <
      length items → IsReachCount (length items) edges a (get_or counts a 0))
      → AreRanks (rows_of items) labels counts
  memory_ranks counts each =
      let es = row_edges 0 (rows_of items) in
      counts_rank es (rows_of items) (graph_here es some_graph) closed labels
      (components_here es some_graph) counts
      (λ a there. subst (λ n. IsReachCount n es a (get_or counts a 0)) (sym same_size)
      (each es some_graph a (subst (λ n. a < n) same_size there)))

  module _ (counts : List ℕ) (ranks : AreRanks (rows_of items) labels counts)
      (raised heights : List ℕ)
      (done : HeightsTo (rows_of items) labels counts (length items + 1) 0 raised)
      (named : (a : ℕ) → a < length items → get_or heights a 0 ≡
      get_or raised (get_or labels a 0) 0) where
    done_here : HeightsTo (rows_of items) labels counts (length (rows_of items) + 1) 0 raised
    done_here =
        subst (λ n. HeightsTo (rows_of items) labels counts (n + 1) 0 raised) (sym same_size) done

    named_here : (a : ℕ) → a < length (rows_of items) → get_or heights a 0 ≡
        get_or raised (get_or labels a 0) 0
    named_here a there = named a (subst (λ n. a < n) same_size there)

    pub memory_heights : (edges : List (ℕ × ℕ)) → IsGraphOf (length items) edges (rows_of items) →
        AreHeights (length items) edges heights
    memory_heights edges graph =
        subst (λ n. AreHeights n edges heights) same_size
        (all_heights edges (rows_of items) (graph_here edges graph) closed labels
        (components_here edges graph) counts ranks raised heights done_here named_here)

    pub memory_below : (a : ℕ) → a < length items → get_or heights a 0 < length items
    memory_below a there =
        let es = row_edges 0 (rows_of items) in
        subst (λ n. get_or heights a 0 < n) same_size
        (all_below es (rows_of items) (graph_here es some_graph) closed labels
        (components_here es some_graph) counts ranks raised heights done_here named_here
        a (subst (λ n. a < n) (sym same_size) there))
