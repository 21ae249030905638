-- Walks that mark what is reached.
use Rattle.std.proofs.Common.{◌≡◌, ◌∙◌, ap, sym, subst, refl, arith, ℕ, ◌+◌, ◌-◌, ◌<◌, ◌≤◌, Bool, true, false, ◌⊎◌, inl, inr, Vec, List, [], ◌∷◌, ◌++◌, Contains, append_assoc, get_or, length, replicate, set, take}
use Rattle.std.proofs.lemmas.Bool.{cases_lt, cases_order, false≢true}
use Rattle.std.proofs.lemmas.List.{append-nil, get_or-set_other, get_or-map, get_or-replicate, get_or-set_same, get_or_append_left, get_or_past, length-append, length-map, length-replicate, length-set, take_more}
use Rattle.std.proofs.lemmas.List.Elements.{Contains-append_cases, Contains-append_left, Contains-append_right, Contains-push, Contains-push_cases}
use Rattle.std.proofs.lemmas.List.Sums.{sum_by-set}
use Rattle.std.specs.declared.alloc.Global.{Global}
use Rattle.rx_graph.specs.Graph.{IsClosed, IsGraphOf, IsMarked, MarksReached, More, One, Path, leads, rows_of}
use Rattle.rx_graph.specs.Marks.{Marked, left_over, unmarked}
use Rattle.rx_graph.proofs.Elements.{none_in_empty, same_at, target_among}
use Rattle.rx_graph.proofs.GraphLaws.{one_behind}

-- ---- marks

pub marked_within : (marks : List Bool) (b : ℕ) → IsMarked marks b → b < length marks
marked_within marks b is = elim (cases_lt b (length marks)) [
  | inl less ↦ less
  | inr past ↦ absurd (false≢true (sym (get_or_past marks b false past) ∙ is))
]

pub now_marked : (marks : List Bool) (t : ℕ) → t < length marks → IsMarked (set marks t true) t
now_marked marks t there = get_or-set_same marks t true false there

pub still_marked : (marks : List Bool) (t b : ℕ) → IsMarked marks b → IsMarked (set marks t true) b
still_marked marks t b is = elim (cases_order b t) [
  | inl same ↦ subst (IsMarked (set marks t true)) (sym same)
      (now_marked marks t (subst (λ k. k < length marks) same (marked_within marks b is)))
  | inr apart ↦ get_or-set_other marks t b true false
      (λ same. elim apart [
        | inl less ↦ omega (arith, less, same)
        | inr more ↦ omega (arith, more, same)
      ]) ∙ is
]

pub was_marked : (marks : List Bool) (t b : ℕ) → IsMarked (set marks t true) b → (b ≡ t) ⊎
    IsMarked marks b
was_marked marks t b is = elim (cases_order b t) [
  | inl same ↦ inl same
  | inr apart ↦
      inr (sym (get_or-set_other marks t b true false
      (λ same. elim apart [
        | inl less ↦ omega (arith, less, same)
        | inr more ↦ omega (arith, more, same)
      ])) ∙ is)
]

-- nothing is marked yet
pub begin_marks : (marks : List Bool) (before : List ℕ) → Marked marks before [] marks before
begin_marks marks before = record {
  count = refl;
  stay = λ b is. is;
  done = λ b none. absurd (none_in_empty b none);
  more = [];
  grown = sym (append-nil before);
  from = λ b none. none;
  new = λ b is. inl is;
  fresh = λ b none. absurd (none_in_empty b none);
  sum = refl;
}

module _ (marks : List Bool) (before targets : List ℕ) (i t : ℕ) (after : List Bool)
    (reached : List ℕ) (there : i < length targets) (is : t ≡ get_or targets i t)
    (w : Marked marks before (take i targets) after reached) where
  one_more : take (i + 1) targets ≡ take i targets ++ t ∷ []
  one_more = take_more targets i t there ∙ ap (λ k. take i targets ++ k ∷ []) (sym is)

  into : (b : ℕ) → Contains (take i targets) b → Contains (take (i + 1) targets) b
  into b among =
      subst (λ ts. Contains ts b) (sym one_more)
      (Contains-append_left (take i targets) (t ∷ []) b among)

  last : Contains (take (i + 1) targets) t
  last = subst (λ ts. Contains ts t) (sym one_more) (Contains-push (take i targets) t)

  old_or_last : (b : ℕ) → Contains (take (i + 1) targets) b → Contains (take i targets) b ⊎ (t ≡ b)
  old_or_last b among =
      Contains-push_cases (take i targets) t b (subst (λ ts. Contains ts b) one_more among)

  -- the target was marked
  pub mark_known : IsMarked after t → Marked marks before (take (i + 1) targets) after reached
  mark_known known = record {
    count = w.count;
    stay = w.stay;
    done =
        λ b among. elim (old_or_last b among)
        [ inl old ↦ w.done b old | inr same ↦ subst (IsMarked after) same known ];
    more = w.more;
    grown = w.grown;
    from = λ b among. into b (w.from b among);
    new = w.new;
    fresh = w.fresh;
    sum = w.sum;
  }

  -- it wasn't, and is now
  pub mark_new : t < length after → get_or after t false ≡ false →
      Marked marks before (take (i + 1) targets) (set after t true) (reached ++ t ∷ [])
  mark_new within isnt = record {
    count = length-set after t true ∙ w.count;
    stay = λ b was. still_marked after t b (w.stay b was);
    done = λ b among. elim (old_or_last b among) [
      | inl old ↦ still_marked after t b (w.done b old)
      | inr same ↦ subst (IsMarked (set after t true)) same (now_marked after t within)
    ];
    more = w.more ++ t ∷ [];
    grown = ap (λ ts. ts ++ t ∷ []) w.grown ∙ append_assoc before w.more (t ∷ []);
    from =
        λ b among. elim (Contains-push_cases w.more t b among) [
          | inl old ↦ into b (w.from b old)
          | inr same ↦ subst (Contains (take (i + 1) targets)) same
              last
        ];
    new = λ b marked. elim (was_marked after t b marked) [
      | inl same ↦ inr (subst (Contains (w.more ++ t ∷ [])) (sym same) (Contains-push w.more t))
      | inr old ↦ elim (w.new b old) [
        | inl was ↦ inl was
        | inr among ↦ inr (Contains-append_left w.more (t ∷ []) b among)
      ]
    ];
    fresh = λ b among. elim (Contains-push_cases w.more t b among) [
      | inl old ↦ still_marked after t b (w.fresh b old)
      | inr same ↦ subst (IsMarked (set after t true)) same (now_marked after t within)
    ];
    sum =
        let change = sum_by-set left_over after t true false within in
        let weight : left_over (get_or after t false) ≡ 1 = ap left_over isnt in
        let grown = length-append reached (t ∷ []) in
        let before_sum = w.sum in
        omega (arith, change, weight, grown, before_sum);
  }

-- what is read of marks
pub read_false : (marks : List Bool) (t : ℕ) (m : Bool) → m ≡ get_or marks t m → m ≡ false →
    get_or marks t false ≡ false
read_false marks t m is isnt = ap (get_or marks t) (sym isnt) ∙ sym is ∙ isnt

pub read_true : (marks : List Bool) (t : ℕ) (m : Bool) → t < length marks → m ≡ get_or marks t m →
    m ≡ true → IsMarked marks t
read_true marks t m there is marked = same_at marks t false m there ∙ sym is ∙ marked

-- none of n marks is set at the beginning
pub none_marked : (n b : ℕ) → IsMarked (replicate n false) b → ⊥
none_marked n b is = elim (cases_lt b n) [
  | inl less ↦ false≢true (sym (get_or-replicate n b false false less) ∙ is)
  | inr past ↦
      let count = length-replicate n false in
      false≢true (sym (get_or_past (replicate n false) b false (omega (arith, past, count))) ∙ is)
]

-- ---- walks

-- what was reached so far: all of it is marked, and what the first n lead to is marked
pub record Walked (edges : List (ℕ × ℕ)) (start : ℕ) (marks : List Bool) (reached : List ℕ)
    (next : ℕ) : Type 0 where
  pub known : (b : ℕ) → IsMarked marks b → Contains reached b
  pub marked : (b : ℕ) → Contains reached b → IsMarked marks b
  pub sound : (b : ℕ) → Contains reached b → Path edges start b
  pub begun : (b : ℕ) → leads edges start b ≡ true → IsMarked marks b
  pub done : (k : ℕ) → k < next → (b : ℕ) → leads edges (get_or reached k 0) b ≡ true →
      IsMarked marks b

module _ (n : ℕ) (edges : List (ℕ × ℕ)) (rows : List (List ℕ)) (graph : IsGraphOf n edges rows)
    (start : ℕ) where
  -- first what the start leads to is marked
  pub first_walked : (marks after : List Bool) (none_reached targets reached : List ℕ) → marks ≡
      replicate n false → none_reached ≡ [] → targets ≡ get_or rows start []
      → Marked marks none_reached targets after reached → Walked edges start after reached 0
  first_walked marks after none_reached targets reached blank empty row marking =
      let w = subst (λ ts. Marked marks [] ts after reached) row
      (subst (λ rs. Marked marks rs targets after reached) empty marking) in
      let none : (b : ℕ) → IsMarked marks b → ⊥ = λ b is.
      none_marked n b (subst (λ ms. IsMarked ms b) blank is) in
      let all : reached ≡ w.more = w.grown in
      record {
        known =
            λ b is. elim (w.new b is) [
              | inl was ↦ absurd (none b was)
              | inr new ↦ subst (λ r. Contains r b) (sym all) new
            ];
        marked = λ b among. w.fresh b (subst (λ r. Contains r b) all among);
        sound =
            λ b among. One start b ((graph.targets start b).0
            (w.from b (subst (λ r. Contains r b) all among)));
        begun = λ b is. w.done b ((graph.targets start b).1 is);
        done = λ k none_yet. absurd (omega (arith, none_yet));
      }

  module _ (marks after : List Bool) (reached targets more : List ℕ) (next v : ℕ)
      (there : next < length reached) (read : v ≡ get_or reached next v)
      (row : targets ≡ get_or rows v []) (before : Walked edges start marks reached next)
      (marking : Marked marks reached targets after more) where
    w : Marked marks reached (get_or rows v []) after more
    w = subst (λ ts. Marked marks reached ts after more) row marking

    is : v ≡ get_or reached next 0
    is = read ∙ same_at reached next v 0 there

    at_next : Contains reached v
    at_next = subst (Contains reached) (sym is) (target_among reached next there)

    same_read : (k : ℕ) → k < length reached → get_or more k 0 ≡ get_or reached k 0
    same_read k less = ap (λ r. get_or r k 0) w.grown ∙ get_or_append_left reached w.more 0 k less

    -- and then what the next one leads to
    pub next_walked : Walked edges start after more (next + 1)
    next_walked = record {
      known = λ b marked. subst (λ r. Contains r b) (sym w.grown) (elim (w.new b marked) [
        | inl was ↦ Contains-append_left reached w.more b (before.known b was)
        | inr new ↦ Contains-append_right reached w.more b new
      ]);
      marked =
          λ b among. elim (Contains-append_cases reached w.more b
          (subst (λ r. Contains r b) w.grown among)) [
            | inl was ↦ w.stay b (before.marked b was)
            | inr new ↦ w.fresh b new
          ];
      sound =
          λ b among. elim (Contains-append_cases reached w.more b
          (subst (λ r. Contains r b) w.grown among)) [
            | inl was ↦ before.sound b was
            | inr new ↦ one_behind edges start v b (before.sound v at_next)
                ((graph.targets v b).0 (w.from b new))
          ];
      begun = λ b leads_to. w.stay b (before.begun b leads_to);
      done = λ k less b leads_to. elim (cases_lt k next) [
        | inl old ↦ w.stay b (before.done k old b
            (subst (λ a. leads edges a b ≡ true) (same_read k (omega (arith, old, there)))
            leads_to))
        | inr last ↦
            let at : k ≡ next = omega (arith, less, last) in
            let vertex : get_or more k 0 ≡ v = ap (λ i. get_or more i 0) at ∙ same_read next there ∙
            sym is in
            w.done b ((graph.targets v b).1 (subst (λ a. leads edges a b ≡ true) vertex leads_to))
      ];
    }

  -- at the end exactly what has a path is marked
  pub all_walked : (marks : List Bool) (reached : List ℕ) (next : ℕ) → length reached ≤ next →
      Walked edges start marks reached next → MarksReached edges start marks
  all_walked marks reached next end w =
      λ b. (λ is. w.sound b (w.known b is), λ path. follow start b path w.begun) where
        closed : (a : ℕ) → IsMarked marks a → (b : ℕ) → leads edges a b ≡ true → IsMarked marks b
        closed a marked b leads_to =
            let (k, less, at) = w.known a marked in
            w.done k (omega (arith, less, end)) b
            (subst (λ v. leads edges v b ≡ true) (sym (same_at reached k 0 a less ∙ at)) leads_to)

        follow : (a b : ℕ) → Path edges a b →
            ((c : ℕ) → leads edges a c ≡ true → IsMarked marks c) →
            IsMarked marks b
        follow _ _ (One a b is) next_marked = next_marked b is
        follow _ _ (More a b c is rest) next_marked = follow b c rest (closed b (next_marked b is))

-- a row that is read
pub row_read : (rows : List (Vec ℕ Global)) (v : ℕ) (row : Vec ℕ Global) (targets : List ℕ) → v <
    length rows → row ≡ get_or rows v row → targets ≡ row.items
    → targets ≡ get_or (rows_of rows) v []
row_read rows v row targets there is same =
    same ∙ ap (λ (r : Vec ℕ Global). r.items) is ∙
    sym (get_or-map (λ (r : Vec ℕ Global). r.items) rows v row [] there)

-- what a row leads to is within the graph
pub row_within : (rows : List (Vec ℕ Global)) (v : ℕ) (targets : List ℕ) → IsClosed (rows_of rows) →
    targets ≡ get_or (rows_of rows) v []
    → (b : ℕ) → Contains targets b → b < length rows
row_within rows v targets closed is b among =
    let h = closed v b (subst (λ r. Contains r b) is among) in
    let count = length-map rows (λ (r : Vec ℕ Global). r.items) in
    omega (arith, h, count)

-- and so is all that is marked on the way
pub more_within : (n : ℕ) (marks after : List Bool) (reached more targets : List ℕ) →
    ((b : ℕ) → Contains reached b → b < n) → ((b : ℕ) → Contains targets b → b < n)
    → Marked marks reached targets after more → (b : ℕ) → Contains more b → b < n
more_within n marks after reached more targets old new w b among =
    elim (Contains-append_cases reached w.more b (subst (λ r. Contains r b) w.grown among)) [
      | inl was ↦ old b was
      | inr other ↦ new b (w.from b other)
    ]

-- each turn has less to do
pub less_to_do : (marks after : List Bool) (reached targets more : List ℕ) (next : ℕ) → next <
    length reached → Marked marks reached targets after more
    → unmarked after + (length more - (next + 1)) < unmarked marks + (length reached - next)
less_to_do marks after reached targets more next there w =
    let sum = w.sum in
    let grown = ap (λ (r : List ℕ). length r) w.grown ∙ length-append reached w.more in
    omega (arith, sum, grown, there)

-- what is marked is read as true
pub marked_true : (marks : List Bool) (t : ℕ) (m : Bool) → t < length marks → m ≡ get_or marks t m →
    IsMarked marks t → m ≡ true
marked_true marks t m there is marked = is ∙ same_at marks t m false there ∙ marked
