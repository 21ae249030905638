-- Smaller weights: equal ranks added on both sides, weights under frames, and smaller weights along
-- a chain.
use Rattle.std.proofs.Common.{◌≡◌, ℕ, zero, suc, ◌<◌, ◌≤◌, Bool, true, false, inl, inr, List, [], ◌∷◌, ◌++◌, ℤ, refl, ap, sym, ◌∙◌, arith}
use Rattle.rx_rewriting.specs.Terms.{Ground, Frame, StackFrame, in_context, Relation, TermSet, Return, Fail, Call, IsResult}
use Rattle.rx_rewriting.specs.Steps.{Step, Here, Under, ReachesIn, NoStep, OneMore}
use Rattle.rx_rewriting.specs.Ranks.{Rank, RankLess, same_rank, Weight, times, IsPermutation, IsBelowOne, AllBelow, Smaller, weight_of, ranks_of}
use Rattle.rx_rewriting.specs.Premises.{Lowers, ClosedUnder, ClosedUnderSubterms, LowersHere}
use Rattle.rx_rewriting.proofs.Counting.{same_rank-true, times-append, times-first, without, IsPermutation-without, not_Alike-nil}
use Rattle.rx_rewriting.proofs.RankOrder.{RankLess-trans}

-- the weight of a term under frames: the frames' ranks beside the term's weight
pub weight_of-in_context : (rank : ℕ → List ℤ → Rank) (fs : List StackFrame) (s : Ground)
    → weight_of rank (in_context fs s) ≡ ranks_of rank fs ++ weight_of rank s
weight_of-in_context rank [] s = refl
weight_of-in_context rank (f ∷ fs) s =
    ap (λ w. rank f.symbol f.arguments ∷ w) (weight_of-in_context rank fs s)

-- the ranks of one stack of frames over another
pub ranks_of-append : (rank : ℕ → List ℤ → Rank) (fs gs : List StackFrame)
    → ranks_of rank (fs ++ gs) ≡ ranks_of rank fs ++ ranks_of rank gs
ranks_of-append rank [] gs = refl
ranks_of-append rank (f ∷ fs) gs =
    ap (λ w. rank f.symbol f.arguments ∷ w) (ranks_of-append rank fs gs)

-- no weight is smaller than the empty one
pub not_Smaller-nil : (v : Weight) → Smaller v [] → ⊥
not_Smaller-nil v less = not_Alike-nil less.first (less.others ++ less.kept) less.old

-- so where steps lower the weight, none starts at an inside result
pub lowered_results_rest : (rank : ℕ → List ℤ → Rank) (inside : TermSet) (R : Relation)
    → Lowers (weight_of rank) inside R → (s t : Ground) → inside s → IsResult s → Step R s t → ⊥
lowered_results_rest rank inside R lowers (Return k) t in_s result step =
    not_Smaller-nil (weight_of rank t) (lowers (Return k) t in_s step)
lowered_results_rest rank inside R lowers (Fail c) t in_s result step =
    not_Smaller-nil (weight_of rank t) (lowers (Fail c) t in_s step)
lowered_results_rest rank inside R lowers (Call f xs) t in_s result step = result
lowered_results_rest rank inside R lowers (Frame f xs s) t in_s result step = result

-- the order of weights does not see the order of a list
pub Smaller-IsPermutation : (v w v' w' : Weight) → IsPermutation v' v → IsPermutation w' w →
    Smaller v w → Smaller v' w'
Smaller-IsPermutation v w v' w' left right less =
    record {
      first = less.first;
      others = less.others;
      kept = less.kept;
      put = less.put;
      old = λ r. right r ∙ less.old r;
      new = λ r. left r ∙ less.new r;
      below = less.below;
    }

-- ranks below one of those taken out, inserted in their place, make a weight smaller
pub Smaller-exchange : (first : Rank) (others put kept : Weight) → AllBelow (first ∷ others) put
    → Smaller (put ++ kept) ((first ∷ others) ++ kept)
Smaller-exchange first others put kept below =
    record {
      first = first;
      others = others;
      kept = kept;
      put = put;
      old = λ r. refl;
      new = λ r.
          refl;
      below = below;
    }

-- the same ranks added in front on both sides keep smaller
pub Smaller-add_left : (u v w : Weight) → Smaller v w → Smaller (u ++ v) (u ++ w)
Smaller-add_left u v w less =
    let taken : Weight = less.first ∷ less.others in
    record {
      first = less.first;
      others = less.others;
      kept = u ++ less.kept;
      put = less.put;
      old = λ r. omega (
        arith,
        less.old r,
        times-append r u w,
        times-append r taken less.kept,
        times-append r taken (u ++ less.kept),
        times-append r u less.kept,
      );
      new = λ r. omega (
        arith,
        less.new r,
        times-append r u v,
        times-append r less.put less.kept,
        times-append r less.put (u ++ less.kept),
        times-append r u less.kept,
      );
      below = less.below;
    }

-- the same ranks added at the end on both sides keep smaller
pub Smaller-add_right : (u v w : Weight) → Smaller v w → Smaller (v ++ u) (w ++ u)
Smaller-add_right u v w less =
    Smaller-IsPermutation (u ++ v) (u ++ w) (v ++ u) (w ++ u)
    (λ r. omega (arith, times-append r u v, times-append r v u))
    (λ r. omega (arith, times-append r u w, times-append r w u))
    (Smaller-add_left u v w less)

-- where a step with no frames over it lowers the weight, so does each step
pub lowers_under_frames : (rank : ℕ → List ℤ → Rank) (inside : TermSet) (R : Relation)
    → ClosedUnderSubterms inside → LowersHere (weight_of rank) inside R →
    Lowers (weight_of rank) inside R
lowers_under_frames rank inside R inner here s t in_s (Here one) = here s t in_s one
lowers_under_frames rank inside R inner here s t in_s (Under {s = s'} {t = t'} f xs step) =
    Smaller-add_left (rank f xs ∷ []) (weight_of rank t') (weight_of rank s')
    (lowers_under_frames rank inside R inner here s' t' (inner f xs s' in_s) step)

-- the rank is below some rank that the list has
pub record IsBelowSome (taken : Weight) (r : Rank) : Type 0 where
  pub over : Rank
  pub among : 0 < times over taken
  pub less : RankLess r over

-- a rank below one of the list is below some rank that the list has
pub below_some : (taken : Weight) (r : Rank) → IsBelowOne taken r → IsBelowSome taken r
below_some [] r below = absurd below
below_some (x ∷ xs) r (inl less) = record { over = x; among = times-first x xs; less = less }
below_some (x ∷ xs) r (inr below) =
    let some = below_some xs r below in
    record { over = some.over; among = omega (arith, some.among); less = some.less }

-- what is below a rank that the list has is below one of the list
pub below_one : (taken : Weight) (r x : Rank) → 0 < times x taken → RankLess r x →
    IsBelowOne taken r
below_one [] r x among less = absurd (omega arith)
below_one (y ∷ ys) r x among less = go (same_rank x y) refl (λ later. below_one ys r x later less)
  where
    go : (b : Bool) → same_rank x y ≡ b → (0 < times x ys → IsBelowOne ys r) → IsBelowOne (y ∷ ys) r
    go true e further = inl (rw (same_rank-true x y e) at less)
    go false e further = inr (further (omega (arith, rw e at among)))

-- where all inserted are below, each of them is
pub each_below : (taken put : Weight) → AllBelow taken put → (r : Rank) → 0 < times r put →
    IsBelowOne taken r
each_below taken [] below r among = absurd (omega arith)
each_below taken (x ∷ put) below r among = go (same_rank r x) refl (each_below taken put below.1 r)
  where
    go : (b : Bool) → same_rank r x ≡ b → (0 < times r put → IsBelowOne taken r) →
        IsBelowOne taken r
    go true e further = rw (same_rank-true r x e) below.0
    go false e further = further (omega (arith, rw e at among))

-- where each rank inserted is below, all are
pub all_below : (taken put : Weight) → ((r : Rank) → 0 < times r put → IsBelowOne taken r) →
    AllBelow taken put
all_below taken [] each = tt
all_below taken (x ∷ put) each =
    (each x (times-first x put), all_below taken put (λ r among. each r (omega (arith, among))))

-- a multiset cut in two ways has four parts: in both first halves, in the one, in the other, in
-- neither
pub record Parts (one one_rest other other_rest : Weight) : Type 0 where
  pub shared : Weight
  pub only_one : Weight
  pub only_other : Weight
  pub neither : Weight
  pub one_is : IsPermutation one (shared ++ only_one)
  pub other_is : IsPermutation other (shared ++ only_other)
  pub one_rest_is : IsPermutation one_rest (only_other ++ neither)
  pub other_rest_is : IsPermutation other_rest (only_one ++ neither)

-- where the two ways give one multiset there are such parts
pub parts : (one one_rest other other_rest : Weight) →
    IsPermutation (one ++ one_rest) (other ++ other_rest)
    → Parts one one_rest other other_rest
parts [] one_rest other other_rest same =
    record {
      shared = [];
      only_one = [];
      only_other = other;
      neither = other_rest;
      one_is = λ r. refl;
      other_is = λ r. refl;
      one_rest_is = same;
      other_rest_is = λ r. refl;
    }
parts (x ∷ one) one_rest other other_rest same =
    go (times x other) refl (λ o q s. parts one one_rest o q s)
  where
    go : (n : ℕ) → times x other ≡ n
        → ((o q : Weight) → IsPermutation (one ++ one_rest) (o ++ q) → Parts one one_rest o q)
        → Parts (x ∷ one) one_rest other other_rest
    go zero e again =
        let there : 0 < times x other_rest =
        omega (arith, same x, e, times-append x other other_rest, times-first x (one ++ one_rest))
        in
        let less = without x other_rest in
        let moved = IsPermutation-without x other_rest there in
        let p = again other less (λ r. omega (
          arith,
          same r,
          moved r,
          times-append r other other_rest,
          times-append r other less,
        )) in
        record {
          shared = p.shared;
          only_one = x ∷ p.only_one;
          only_other = p.only_other;
          neither = p.neither;
          one_is = λ r. omega (
            arith,
            p.one_is r,
            times-append r p.shared p.only_one,
            times-append r p.shared (x ∷ p.only_one),
          );
          other_is = p.other_is;
          one_rest_is = p.one_rest_is;
          other_rest_is = λ r. omega (arith, moved r, p.other_rest_is r);
        }
    go (suc n) e again =
        let there : 0 < times x other = omega (arith, e) in
        let less = without x other in
        let moved = IsPermutation-without x other there in
        let p = again less other_rest (λ r. omega (
          arith,
          same r,
          moved r,
          times-append r other other_rest,
          times-append r less other_rest,
        )) in
        record {
          shared = x ∷ p.shared;
          only_one = p.only_one;
          only_other = p.only_other;
          neither = p.neither;
          one_is = λ r. omega (arith, p.one_is r);
          other_is = λ r. omega (arith, moved r, p.other_is r);
          one_rest_is = p.one_rest_is;
          other_rest_is = p.other_rest_is;
        }

-- where ranks are below one of the list's, that list being among another's, they are below one of
-- the other's
pub below_wider : (taken wider : Weight) → ((r : Rank) → times r taken ≤ times r wider)
    → (r : Rank) → IsBelowOne taken r → IsBelowOne wider r
below_wider taken wider among r below =
    let some = below_some taken r below in
    below_one wider r some.over (omega (arith, some.among, among some.over)) some.less

-- a rank below a rank that is below one of the list's is below one of the list's
pub below_rest : (taken : Weight) (r x : Rank) → RankLess r x → IsBelowOne taken x →
    IsBelowOne taken r
below_rest taken r x less below =
    let some = below_some taken x below in
    below_one taken r some.over some.among (RankLess-trans r x some.over less some.less)

-- smaller than smaller is smaller
pub Smaller-trans : (u v w : Weight) → Smaller u v → Smaller v w → Smaller u w
Smaller-trans u v w low high =
    let p : Parts high.put high.kept out low.kept =
    parts high.put high.kept out low.kept (λ r. sym (high.new r) ∙ low.old r) in
    let taken : Weight = top ++ p.only_other in
    record {
      first = high.first;
      others = high.others ++ p.only_other;
      kept = p.neither;
      put = low.put ++ p.only_one;
      old = λ r. omega (
        arith,
        high.old r,
        p.one_rest_is r,
        times-append r top high.kept,
        times-append r taken p.neither,
        times-append r top p.only_other,
        times-append r p.only_other p.neither,
      );
      new = λ r. omega (
        arith,
        low.new r,
        p.other_rest_is r,
        times-append r low.put low.kept,
        times-append r (low.put ++ p.only_one) p.neither,
        times-append r low.put p.only_one,
        times-append r p.only_one p.neither,
      );
      below =
          all_below taken (low.put ++ p.only_one)
          (λ r among. below p r (times r low.put) refl among);
    }
  where
    top : Weight
    top = high.first ∷ high.others

    out : Weight
    out = low.first ∷ low.others

    -- what the upper step inserted is below one that it took out
    upper : (r : Rank) → 0 < times r high.put → IsBelowOne top r
    upper = each_below top high.put high.below

    -- what is below one that the lower step took out is below one that both together took out
    over : (p : Parts high.put high.kept out low.kept) (r : Rank) (some : IsBelowSome out r) (n : ℕ)
        → times some.over p.only_other ≡ n → IsBelowOne (top ++ p.only_other) r
    over p r some zero e =
        let put_in : 0 < times some.over high.put =
        omega (
          arith,
          some.among,
          p.other_is some.over,
          p.one_is some.over,
          times-append some.over p.shared p.only_other,
          times-append some.over p.shared p.only_one,
        ) in
        below_wider top (top ++ p.only_other) (λ q. omega (arith, times-append q top p.only_other))
        r
        (below_rest top r some.over some.less (upper some.over put_in))
    over p r some (suc n) e =
        below_one (top ++ p.only_other) r some.over
        (omega (arith, e, times-append some.over top p.only_other)) some.less

    -- what both together inserted is below one that both together took out
    below : (p : Parts high.put high.kept out low.kept) (r : Rank) (n : ℕ) → times r low.put ≡ n
        → 0 < times r (low.put ++ p.only_one) → IsBelowOne (top ++ p.only_other) r
    below p r zero e among =
        below_wider top (top ++ p.only_other) (λ q. omega (arith, times-append q top p.only_other))
        r
        (upper r (omega (
          arith,
          e,
          among,
          p.one_is r,
          times-append r low.put p.only_one,
          times-append r p.shared p.only_one,
        )))
    below p r (suc n) e among =
        let some = below_some out r (each_below out low.put low.below r (omega (arith, e))) in
        over p r some (times some.over p.only_other) refl

-- where each step from inside lowers the weight and stays inside, so does each chain of at least
-- one step
pub chain_lowers : (weight : Ground → Weight) (inside : TermSet) (R : Relation)
    → Lowers weight inside R → ClosedUnder inside R
    → (m : ℕ) (s t : Ground) → inside s → ReachesIn R (suc m) s t → Smaller (weight t) (weight s)
chain_lowers weight inside R lowers stays zero s t in_s (OneMore step NoStep) = lowers s t in_s step
chain_lowers weight inside R lowers stays (suc m) s t in_s (OneMore {t = u} step rest) =
    Smaller-trans (weight t) (weight u) (weight s)
    (chain_lowers weight inside R lowers stays m u t (stays s u in_s step) rest)
    (lowers s u in_s step)

-- where each step from inside stays inside, so does each chain
pub chain_stays : (inside : TermSet) (R : Relation) → ClosedUnder inside R
    → (m : ℕ) (s t : Ground) → inside s → ReachesIn R m s t → inside t
chain_stays inside R stays m s t in_s NoStep = in_s
chain_stays inside R stays m s t in_s (OneMore {m = n} {t = u} step rest) =
    chain_stays inside R stays n u t (stays s u in_s step) rest
