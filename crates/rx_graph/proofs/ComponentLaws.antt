-- Labels of components: the vertices in order, each naming its component unless a lesser one did.
use Rattle.std.proofs.Common.{◌≡◌, ◌∙◌, ap, sym, subst, refl, arith, ℕ, ◌+◌, ◌<◌, ◌≤◌, ◌==◌, Bool, true, false, ◌&&◌, ◌⊎◌, inl, inr, ◌↔◌, List, [], ◌∷◌, get_or, length}
use Rattle.std.specs.Bool.{OnTrue}
use Rattle.std.proofs.lemmas.Bool.{and_from, and_parts, cases_lt, eq-eqb, eqb-true}
use Rattle.rx_graph.specs.Components.{AreComponents}
use Rattle.rx_graph.specs.Graph.{IsClosed, IsGraphOf, MarksReached, More, One, Path, below, leads, reaches, reversed_edges, together}
use Rattle.rx_graph.specs.Marks.{Labelled, Named}
use Rattle.rx_graph.proofs.Elements.{none_in}
use Rattle.rx_graph.proofs.GraphLaws.{among_below, one_behind, or_cases, or_left, or_right, path_after, reaches_path}
use Rattle.rx_graph.proofs.RowLaws.{leads_back, leads_forth, leads_within}

-- ---- paths reversed

pub path_forth : (edges : List (ℕ × ℕ)) (a b : ℕ) → Path (reversed_edges edges) a b → Path edges b a
path_forth edges _ _ (One a b is) = One b a (leads_forth edges b a is)
path_forth edges _ _ (More a b c is rest) =
    one_behind edges c b a (path_forth edges b c rest) (leads_forth edges b a is)

pub path_back : (edges : List (ℕ × ℕ)) (a b : ℕ) → Path edges a b → Path (reversed_edges edges) b a
path_back edges _ _ (One a b is) = One b a (leads_back edges a b is)
path_back edges _ _ (More a b c is rest) =
    one_behind (reversed_edges edges) c b a (path_back edges b c rest) (leads_back edges a b is)

-- ---- being in one component

-- two are one, or each has a path to the other
abbrev pub Joined : List (ℕ × ℕ) → ℕ → ℕ → Type 0
Joined edges a b = (a ≡ b) ⊎ (Path edges a b × Path edges b a)

pub joined_back : (edges : List (ℕ × ℕ)) (a b : ℕ) → Joined edges a b → Joined edges b a
joined_back edges a b (inl same) = inl (sym same)
joined_back edges a b (inr paths) = inr (paths.1, paths.0)

pub joined_on : (edges : List (ℕ × ℕ)) (a b c : ℕ) → Joined edges a b → Joined edges b c →
    Joined edges a c
joined_on edges a b c (inl same) also = subst (λ k. Joined edges k c) (sym same) also
joined_on edges a b c (inr paths) (inl same) = subst (Joined edges a) same (inr paths)
joined_on edges a b c (inr paths) (inr more) =
    inr (path_after edges a b c paths.0 more.0, path_after edges c b a more.1 paths.1)

module _ (n : ℕ) (edges : List (ℕ × ℕ)) (within : (a b : ℕ) → leads edges a b ≡ true → (a < n) ×
    (b < n)) where
  -- being reached is having a path
  pub reached_path : (a b : ℕ) → (reaches edges (below n) a b ≡ true) ↔ Path edges a b
  reached_path a b = reaches_path edges (below n) (λ c d is. among_below n d (within c d is).1) a b

  pub together_joined : (a b : ℕ) → together edges (below n) a b ≡ true → Joined edges a b
  together_joined a b is =
      elim (or_cases (a == b) (reaches edges (below n) a b && reaches edges (below n) b a) is) [
        | inl same ↦ inl (eqb-true a b same)
        | inr both ↦
            let parts = and_parts (reaches edges (below n) a b) (reaches edges (below n) b a) both
            in
            inr ((reached_path a b).0 parts.0, (reached_path b a).0 parts.1)
      ]

  pub joined_together : (a b : ℕ) → Joined edges a b → together edges (below n) a b ≡ true
  joined_together a b (inl same) =
      or_left (a == b) (reaches edges (below n) a b && reaches edges (below n) b a)
      (eq-eqb a b same)
  joined_together a b (inr paths) =
      or_right (a == b) (reaches edges (below n) a b && reaches edges (below n) b a)
      (and_from (reaches edges (below n) a b) (reaches edges (below n) b a)
      ((reached_path a b).1 paths.0) ((reached_path b a).1 paths.1))

-- ---- the labels so far

-- each label is in the component; no vertex before `v` in the component is less than it; and it is
-- one before `v`, or the vertex itself
pub record LabelsTo (n : ℕ) (edges : List (ℕ × ℕ)) (v : ℕ) (labels : List ℕ) : Type 0 where
  pub inside : (a : ℕ) → a < n → Joined edges a (get_or labels a 0)
  pub least : (a b : ℕ) → a < n → b < v → Joined edges a b → get_or labels a 0 ≤ b
  pub own : (a : ℕ) → a < n → (get_or labels a 0 < v) ⊎ (get_or labels a 0 ≡ a)

pub begin_labels : (n : ℕ) (edges : List (ℕ × ℕ)) (labels : List ℕ) →
    ((a : ℕ) → a < n → get_or labels a 0 ≡ a) → LabelsTo n edges 0 labels
begin_labels n edges labels own = record {
  inside = λ a less. inl (sym (own a less));
  least = λ a b less none also. absurd (omega (arith, none));
  own = λ a less. inr (own a less);
}

module _ (n : ℕ) (edges : List (ℕ × ℕ)) (v : ℕ) (labels after : List ℕ) (there : v < n)
    (before : LabelsTo n edges v labels) (named : Named edges v labels after) where
  -- a lesser vertex named the component
  label_known : get_or labels v 0 < v → LabelsTo n edges (v + 1) after
  label_known lesser =
      let differs : get_or labels v 0 ≡ v → ⊥ = λ same. omega (arith, lesser, same) in
      let same : labels ≡ after = sym (named.known differs) in
      subst (LabelsTo n edges (v + 1)) same (record {
        inside = before.inside;
        least = λ a b less upto also. elim (cases_lt b v) [
          | inl old ↦ before.least a b less old also
          | inr last ↦
              let at : b ≡ v = omega (arith, upto, last) in
              let low = before.least a (get_or labels v 0) less lesser
              (joined_on edges a v (get_or labels v 0) (subst (Joined edges a) at also)
              (before.inside v there)) in
              omega (arith, low, lesser, at)
        ];
        own =
            λ a less. elim (before.own a less)
            [ inl old ↦ inl (omega (arith, old)) | inr itself ↦ inr itself ];
      })

  -- none did, so the vertex is the least of its component
  label_new : get_or labels v 0 ≡ v → LabelsTo n edges (v + 1) after
  label_new own = record {
    inside = λ a less. elim (named.only a) [
      | inl same ↦ subst (Joined edges a) (sym same) (before.inside a less)
      | inr new ↦ inr (subst (λ k. Path edges a k × Path edges k a) (sym new.2) (new.1, new.0))
    ];
    least = λ a b less upto also. elim (cases_lt b v) [
      | inl old ↦ elim (named.only a) [
        | inl same ↦ let low = before.least a b less old also in omega (arith, low, same)
        | inr new ↦
            let low = before.least v b there old (joined_on edges v a b (inr (new.0, new.1)) also)
            in
            absurd (omega (arith, low, own, old))
      ]
      | inr last ↦
          let at : b ≡ v = omega (arith, upto, last) in
          elim (subst (Joined edges a) at also) [
            | inl itself ↦ elim (named.only a) [
              | inl same ↦
                  let here : get_or labels a 0 ≡ v = ap (λ k. get_or labels k 0) itself ∙ own in
                  omega (arith, same, here, at)
              | inr new ↦ let is = new.2 in omega (arith, is, at)
            ]
            | inr paths ↦ let is = named.both own a paths.1 paths.0 in omega (arith, is, at)
          ]
    ];
    own = λ a less. elim (named.only a) [
      | inl same ↦ elim (before.own a less) [
        | inl old ↦ inl (omega (arith, old, same))
        | inr itself ↦ inr (same ∙ itself)
      ]
      | inr new ↦ let is = new.2 in inl (omega (arith, is))
    ];
  }

  pub label_more : LabelsTo n edges (v + 1) after
  label_more =
      elim (before.own v there) [ inl lesser ↦ label_known lesser | inr own ↦ label_new own ]

-- when all vertices were taken, the labels are those of the components
pub all_labels : (n : ℕ) (edges : List (ℕ × ℕ)) (rows : List (List ℕ)) → IsGraphOf n edges rows →
    IsClosed rows → (v : ℕ) (labels : List ℕ) → n ≤ v → LabelsTo n edges v labels
    → AreComponents n edges labels
all_labels n edges rows graph closed v labels all to a less = record {
  inside =
      joined_together n edges (leads_within n edges rows graph closed) a (get_or labels a 0)
      (to.inside a less);
  least =
      λ b there also. to.least a b less (omega (arith, there, all))
      (together_joined n edges (leads_within n edges rows graph closed) a b also);
}

-- ---- one component

-- what is marked both ways
pub label_marked : (edges : List (ℕ × ℕ)) (v : ℕ) (forwards backwards : List Bool)
    (labels after : List ℕ) → get_or labels v 0 ≡ v → MarksReached edges v forwards
    → MarksReached (reversed_edges edges) v backwards → Labelled forwards backwards v labels after →
    Named edges v labels after
label_marked edges v forwards backwards labels after own forth back made = record {
  count = made.count;
  known = λ differs. absurd (differs own);
  both = λ _ b there here. made.both b ((forth b).1 there) ((back b).1 (path_back edges b v here));
  only = λ b. elim (made.only b) [
    | inl same ↦ inl same
    | inr new ↦ inr ((forth b).0 new.0, path_forth edges v b ((back b).0 new.1), new.2)
  ];
}

-- or nothing, where a lesser vertex named the component
pub label_none : (edges : List (ℕ × ℕ)) (v : ℕ) (labels : List ℕ) → (get_or labels v 0 ≡ v → ⊥) →
    Named edges v labels labels
label_none edges v labels differs = record {
  count = refl;
  known = λ _. refl;
  both = λ own. absurd (differs own);
  only = λ b. inl refl;
}

-- or where it reaches nothing, or nothing reaches it
pub label_alone : (edges : List (ℕ × ℕ)) (v : ℕ) (labels : List ℕ) →
    ((b : ℕ) → Path edges v b → Path edges b v → ⊥) → Named edges v labels labels
label_alone edges v labels none = record {
  count = refl;
  known = λ _. refl;
  both = λ _ b there here. absurd (none b there here);
  only = λ b. inl refl;
}

-- a row of no targets is empty
pub no_targets : (b : Bool) (targets : List ℕ) {row : List ℕ} → b ≡ (length targets == 0) →
    targets ≡ row → OnTrue b (row ≡ [])
no_targets true [] e same = sym same
no_targets true (t ∷ ts) e same =
    let none = eqb-true (length (t ∷ ts)) 0 (sym e) in absurd (omega (arith, none))
no_targets false targets e same = tt

-- no path begins where no edge does
pub no_path : (n : ℕ) (edges : List (ℕ × ℕ)) (rows : List (List ℕ)) (a b : ℕ) →
    IsGraphOf n edges rows → get_or rows a [] ≡ [] → Path edges a b → ⊥
no_path n edges rows _ _ graph none (One a b is) =
    none_in (get_or rows a []) none b ((graph.targets a b).1 is)
no_path n edges rows _ _ graph none (More a b c is rest) =
    none_in (get_or rows a []) none b ((graph.targets a b).1 is)

-- ---- one label is one component

module _ (n : ℕ) (edges : List (ℕ × ℕ)) (within : (a b : ℕ) → leads edges a b ≡ true → (a < n) ×
    (b < n)) (labels : List ℕ) (components : AreComponents n edges labels) where
  inside : (a : ℕ) → a < n → Joined edges a (get_or labels a 0)
  inside a there = together_joined n edges within a (get_or labels a 0) (components a there).inside

  least : (a b : ℕ) → a < n → b < n → Joined edges a b → get_or labels a 0 ≤ b
  least a b there also joined =
      (components a there).least b also (joined_together n edges within a b joined)

  pub label_within : (a : ℕ) → a < n → get_or labels a 0 < n
  label_within a there = let low = least a a there there (inl refl) in omega (arith, low, there)

  pub same_joined : (a b : ℕ) → a < n → b < n → get_or labels a 0 ≡ get_or labels b 0 →
      Joined edges a b
  same_joined a b there also same =
      joined_on edges a (get_or labels a 0) b (inside a there)
      (joined_back edges b (get_or labels a 0)
      (subst (Joined edges b) (sym same) (inside b also)))

  pub joined_same : (a b : ℕ) → a < n → b < n → Joined edges a b → get_or labels a 0 ≡
      get_or labels b 0
  joined_same a b there also joined =
      let low = least a (get_or labels b 0) there (label_within b also)
      (joined_on edges a b (get_or labels b 0) joined (inside b also)) in
      let high = least b (get_or labels a 0) also (label_within a there)
      (joined_on edges b a (get_or labels a 0) (joined_back edges a b joined) (inside a there))
      in
      omega (arith, low, high)

  pub same_together : (a b : ℕ) → a < n → b < n →
      (get_or labels a 0 ≡ get_or labels b 0) ↔ (together edges (below n) a b ≡ true)
  same_together a b there also = (
    λ same. joined_together n edges within a b (same_joined a b there also same),
    λ is. joined_same a b there also (together_joined n edges within a b is),
  )
