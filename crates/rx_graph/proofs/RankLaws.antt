-- How many vertices a vertex reaches: equal within a component, less beyond each edge that leaves
-- it.
use Rattle.std.proofs.Common.{◌≡◌, ◌∙◌, ap, sym, subst, refl, arith, ℕ, zero, suc, ◌+◌, ◌<◌, ◌≤◌, Bool, true, false, cond, ◌⊎◌, inl, inr, List, [], ◌∷◌, get_or, length, replicate, set}
use Rattle.std.proofs.lemmas.Bool.{false≢true}
use Rattle.std.proofs.lemmas.List.{length-replicate, length-set}
use Rattle.std.proofs.lemmas.List.Sums.{count_by-le-length, get_or-le-sum_by, sum_by-cons}
use Rattle.std.specs.List.{count_by}
use Rattle.rx_graph.specs.Components.{AreComponents}
use Rattle.rx_graph.specs.Graph.{IsClosed, IsGraphOf, IsMarked, MarksReached, One, Path, leads}
use Rattle.rx_graph.specs.Ranked.{AreRanks, IsReachCount}
use Rattle.rx_graph.specs.Rows.{HasEdge}
use Rattle.rx_graph.proofs.ComponentLaws.{Joined, joined_back, joined_same, label_within, no_path, same_joined}
use Rattle.rx_graph.proofs.GraphLaws.{path_after}
use Rattle.rx_graph.proofs.Marking.{marked_within, now_marked, still_marked, was_marked}
use Rattle.rx_graph.proofs.RowLaws.{from_within, leads_within}

-- ---- more marks are no fewer

abbrev marked_count : List Bool → ℕ
marked_count marks = count_by (λ m. m) marks

first_counts : (m : Bool) (ms : List Bool) → marked_count (m ∷ ms) ≡ cond m 1 0 + marked_count ms
first_counts m ms = sum_by-cons (λ (k : Bool). cond k 1 0) m ms

first_most : (m n : Bool) → (m ≡ true → n ≡ true) → cond m 1 0 ≤ cond n 1 0
first_most true true on = omega arith
first_most true false on = absurd (false≢true (on refl))
first_most false true on = omega arith
first_most false false on = omega arith

first_less : (m n : Bool) → n ≡ true → (m ≡ true → ⊥) → cond m 1 0 < cond n 1 0
first_less true n is isnt = absurd (isnt refl)
first_less false true is isnt = omega arith
first_less false false is isnt = absurd (false≢true is)

more_marked : (ms ns : List Bool) → length ms ≡ length ns →
    ((b : ℕ) → IsMarked ms b → IsMarked ns b) → marked_count ms ≤ marked_count ns
more_marked [] ns same on = omega arith
more_marked (m ∷ ms) [] same on = absurd (omega (arith, same))
more_marked (m ∷ ms) (n ∷ ns) same on =
    let rest = more_marked ms ns (omega (arith, same)) (λ b. on (suc b)) in
    let here = first_most m n (on 0) in
    let left = first_counts m ms in
    let right = first_counts n ns in
    omega (arith, rest, here, left, right)

less_marked : (ms ns : List Bool) → length ms ≡ length ns →
    ((b : ℕ) → IsMarked ms b → IsMarked ns b) → (b : ℕ) → IsMarked ns b → (IsMarked ms b → ⊥) →
    marked_count ms < marked_count ns
less_marked ms [] same on b is isnt = let h = marked_within [] b is in absurd (omega (arith, h))
less_marked [] (n ∷ ns) same on b is isnt = absurd (omega (arith, same))
less_marked (m ∷ ms) (n ∷ ns) same on zero is isnt =
    let rest = more_marked ms ns (omega (arith, same)) (λ b. on (suc b)) in
    let here = first_less m n is isnt in
    let left = first_counts m ms in
    let right = first_counts n ns in
    omega (arith, rest, here, left, right)
less_marked (m ∷ ms) (n ∷ ns) same on (suc b) is isnt =
    let rest = less_marked ms ns (omega (arith, same)) (λ d. on (suc d)) b is isnt in
    let here = first_most m n (on 0) in
    let left = first_counts m ms in
    let right = first_counts n ns in
    omega (arith, rest, here, left, right)

-- ---- one vertex

abbrev Reaches : List (ℕ × ℕ) → ℕ → ℕ → Type 0
Reaches edges a b = (a ≡ b) ⊎ Path edges a b

-- the marks of what has a path from it, and its own
pub reach_counted : (n : ℕ) (edges : List (ℕ × ℕ)) (a : ℕ) (marks : List Bool) (count : ℕ) → a < n →
    length marks ≡ n → MarksReached edges a marks
    → count ≡ count_by (λ m. m) (set marks a true) → IsReachCount n edges a count
reach_counted n edges a marks count there size reached is = record {
  marks = set marks a true;
  size = length-set marks a true ∙ size;
  exact = λ b. (
    λ marked. elim (was_marked marks a b marked)
        [ inl same ↦ inl (sym same) | inr was ↦ inr ((reached b).0 was) ],
    λ reaches. elim reaches [
      | inl same ↦ subst (IsMarked (set marks a true)) same
          (now_marked marks a (omega (arith, there, size)))
      | inr path ↦ still_marked marks a b ((reached b).1 path)
    ],
  );
  is = is;
}

-- ---- a vertex that no edge leaves

no_read : (n b : ℕ) → get_or (replicate n false) b false ≡ false
no_read zero b = refl
no_read (suc n) zero = refl
no_read (suc n) (suc b) = no_read n b

no_count : (n : ℕ) → marked_count (replicate n false) ≡ 0
no_count zero = refl
no_count (suc n) =
    let first = first_counts false (replicate n false) in
    let rest = no_count n in
    omega (arith, first, rest)

one_count : (n a : ℕ) → a < n → 1 ≡ marked_count (set (replicate n false) a true)
one_count zero a there = absurd (omega (arith, there))
one_count (suc n) zero there =
    let first = first_counts true (replicate n false) in
    let rest = no_count n in
    omega (arith, first, rest)
one_count (suc n) (suc a) there =
    let first = first_counts false (set (replicate n false) a true) in
    let rest = one_count n a (omega (arith, there)) in
    omega (arith, first, rest)

-- it reaches itself alone
pub reach_itself : (n : ℕ) (edges : List (ℕ × ℕ)) (rows : List (List ℕ)) (a : ℕ) → a < n →
    IsGraphOf n edges rows → get_or rows a [] ≡ [] → IsReachCount n edges a 1
reach_itself n edges rows a there graph empty =
    reach_counted n edges a (replicate n false) 1 there (length-replicate n false)
    (λ b. (
      λ marked. absurd (false≢true (sym (no_read n b) ∙ marked)),
      λ path. absurd (no_path n edges rows a b graph empty path),
    ))
    (one_count n a there)

joined_reaches : (edges : List (ℕ × ℕ)) (a b c : ℕ) → Joined edges a b → Reaches edges b c →
    Reaches edges a c
joined_reaches edges a b c (inl same) also = subst (λ k. Reaches edges k c) (sym same) also
joined_reaches edges a b c (inr paths) (inl same) = inr (subst (Path edges a) same paths.0)
joined_reaches edges a b c (inr paths) (inr path) = inr (path_after edges a b c paths.0 path)

path_reaches : (edges : List (ℕ × ℕ)) (a b c : ℕ) → Path edges a b → Reaches edges b c →
    Path edges a c
path_reaches edges a b c path (inl same) = subst (Path edges a) same path
path_reaches edges a b c path (inr more) = path_after edges a b c path more

-- ---- all vertices

module _ (edges : List (ℕ × ℕ)) (rows : List (List ℕ)) (graph : IsGraphOf (length rows) edges rows)
    (closed : IsClosed rows) (labels : List ℕ)
    (components : AreComponents (length rows) edges labels) where
  within : (a b : ℕ) → leads edges a b ≡ true → (a < length rows) × (b < length rows)
  within = leads_within (length rows) edges rows graph closed

  module _ (counts : List ℕ) (each : (a : ℕ) → a < length rows →
      IsReachCount (length rows) edges a (get_or counts a 0)) where
    count_most : (a b : ℕ) (there : a < length rows) (also : b < length rows) → Joined edges b a →
        get_or counts a 0 ≤ get_or counts b 0
    count_most a b there also joined =
        let first = each a there in
        let second = each b also in
        let most = more_marked first.marks second.marks (first.size ∙ sym second.size)
        (λ c is. (second.exact c).1 (joined_reaches edges b a c joined ((first.exact c).0 is)))
        in
        let left = first.is in
        let right = second.is in
        omega (arith, most, left, right)

    count_falls : (a b : ℕ) → HasEdge rows a b → (get_or labels a 0 ≡ get_or labels b 0 → ⊥) →
        get_or counts b 0 < get_or counts a 0
    count_falls a b edge differs =
        let there = from_within rows a b edge in
        let also = closed a b edge in
        let first = each a there in
        let second = each b also in
        let path = One a b ((graph.targets a b).0 edge) in
        let less = less_marked second.marks first.marks (second.size ∙ sym first.size)
        (λ c is. (first.exact c).1 (inr (path_reaches edges a b c path ((second.exact c).0 is))))
        a ((first.exact a).1 (inl refl))
        (λ is. differs (elim ((second.exact a).0 is) [
          | inl same ↦ ap (λ k. get_or labels k 0) (sym same)
          | inr back ↦ joined_same (length rows) edges within labels components a b there also
              (inr (path, back))
        ])) in
        let left = first.is in
        let right = second.is in
        omega (arith, less, left, right)

    count_some : (a : ℕ) → a < length rows → 0 < get_or counts a 0
    count_some a there =
        let one = each a there in
        let size = one.size in
        let marked = (one.exact a).1 (inl refl) in
        let here : ◌≡◌ {A = ℕ} (cond (get_or one.marks a false) 1 0) 1 =
        ap {B = ℕ} (λ (m : Bool). cond m 1 0) marked in
        let most = get_or-le-sum_by (λ (m : Bool). cond m 1 0) one.marks a false
        (omega (arith, there, size)) in
        let is = one.is in
        omega (arith, here, most, is)

    count_within : (a : ℕ) → a < length rows → get_or counts a 0 ≤ length rows
    count_within a there =
        let one = each a there in
        let size = one.size in
        let most = count_by-le-length (λ (m : Bool). m) one.marks in
        let is = one.is in
        omega (arith, size, most, is)

    pub counts_rank : AreRanks rows labels counts
    counts_rank = record {
      named = label_within (length rows) edges within labels components;
      same = λ a b there also same.
          let joined = same_joined (length rows) edges within labels components a b there also same
          in
          let low = count_most a b there also (joined_back edges a b joined) in
          let high = count_most b a also there joined in
          omega (arith, low, high);
      falls = count_falls;
      some = count_some;
      most = count_within;
    }
