-- Where the elimination finds nothing there are no multipliers: a stage keeps that there are some.
use Rattle.std.proofs.Common.{◌≡◌, ◌∙◌, ap, subst, Bool, true, false, not, cond, refl, sym, List, [], ◌∷◌, ◌++◌, map, filter, length, ℕ, zero, suc, nat_le, Option, Some, None, All, ℤ, pos, negsuc, ◌+ℤ◌, ◌*ℤ◌, ◌≤ℤ◌, ◌<ℤ◌, int_lt, arith}
use Rattle.std.proofs.lemmas.Int.{ints}
use Rattle.std.proofs.lemmas.Bool.{and_from, and_parts, not-true}
use Rattle.std.proofs.lemmas.List.Elements.{All-head, All-tail}
use Rattle.std.specs.List.{list_all}
use Rattle.rx_plain.proofs.Integers.{mul-zero-int}
use Rattle.rx_poly.specs.Normal.{is_poly}
use Rattle.rx_poly.specs.Reading.{coefficient, constant_of}
use Rattle.rx_poly.specs.Terms.{is_zero}
use Rattle.rx_poly.specs.Value.{sum_terms}
use Rattle.rx_poly.proofs.PolyLaws.{poly_terms}
use Rattle.rx_poly.specs.declared.body.Body.{Body, out-Body}
use Rattle.rx_poly.specs.declared.body.Mono.{Mono}
use Rattle.rx_fm.specs.Elimination.{EliminationEnd, at, Large, eliminate, elimination, first_negative, found_or, given, given_from, is_below_zero, is_negative, is_one, resolvent, resolvent_within, monomials, negative, stage, stage_within, nothing, pairs, pairs_within, positive, unit, without}
use Rattle.rx_fm.specs.Witness.{IsWitness, one, total}
use Rattle.rx_fm.specs.declared.combination.Combination.{Combination}
use Rattle.rx_fm.proofs.Coefficients.{numeral, only_number}
use Rattle.rx_fm.proofs.Covering.{Covers, Lacks, given_covers, good-filter, next_covers}
use Rattle.rx_fm.proofs.Joined.{cross, factor, factor_not_negative, good, joined_good}
use Rattle.rx_fm.proofs.Sums.{Crosswise, Every, NotNegative, above, above_of, below, below_of, every-append, every-filter, every-weaker, growth, growth_above, joined_pairs, joined_with, kept, product_not_negative, stage_of, stage_sum, top}

-- combinations with weights
abbrev pub elements : List (Combination × ℤ) → List Combination
elements ts = map (λ (t : Combination × ℤ). t.0) ts

-- ---- the elements after a stage

elements-append : (ts us : List (Combination × ℤ)) → elements (ts ++ us) ≡ elements ts ++
    elements us
elements-append [] us = refl
elements-append (t ∷ ts) us = ap (λ cs. t.0 ∷ cs) (elements-append ts us)

elements-scaled : (k : ℤ) (ts : List (Combination × ℤ)) →
    elements (map (λ (t : Combination × ℤ). (t.0, k *ℤ t.1)) ts) ≡ elements ts
elements-scaled k [] = refl
elements-scaled k (t ∷ ts) = ap (λ cs. t.0 ∷ cs) (elements-scaled k ts)

by_test : (test : Combination → Bool) (t : Combination × ℤ) (ts : List (Combination × ℤ))
    (cs : List Combination) → elements ts ≡ cs → (b : Bool) → elements (cond b (t ∷ ts) ts) ≡
    cond b (t.0 ∷ cs) cs
by_test test t ts cs e true = ap (λ ds. t.0 ∷ ds) e
by_test test t ts cs e false = e

elements-filter : (test : Combination → Bool) (ts : List (Combination × ℤ)) →
    elements (filter (λ (t : Combination × ℤ). test t.0) ts) ≡ filter test (elements ts)
elements-filter test [] = refl
elements-filter test (t ∷ ts) =
    by_test test t (filter (λ (u : Combination × ℤ). test u.0) ts) (filter test (elements ts))
    (elements-filter test ts) (test t.0)

module _ (m : Mono) where
  elements-with : (p : Combination × ℤ) (qs : List (Combination × ℤ)) →
      elements (joined_with (resolvent m) (factor m) p qs) ≡ map (resolvent m p.0) (elements qs)
  elements-with p [] = refl
  elements-with p (q ∷ qs) = ap (λ cs. resolvent m p.0 q.0 ∷ cs) (elements-with p qs)

  elements-pairs : (ps qs : List (Combination × ℤ)) →
      elements (joined_pairs (resolvent m) (factor m) ps qs) ≡ pairs m (elements ps) (elements qs)
  elements-pairs [] qs = refl
  elements-pairs (p ∷ ps) qs =
      elements-append (joined_with (resolvent m) (factor m) p qs)
      (joined_pairs (resolvent m) (factor m) ps qs)
      ∙ (λ i. elements-with p qs i ++ elements-pairs ps qs i)

  abbrev pub behind : List (Combination × ℤ) → List (Combination × ℤ)
  behind ts =
      stage_of (resolvent m) (factor m) (at m) ts
      (growth (resolvent m) (factor m) (at m) ts (top (resolvent m) (factor m) (at m) ts))

  elements-after : (ts : List (Combination × ℤ)) → elements (behind ts) ≡ stage m (elements ts)
  elements-after ts =
      let k = growth (resolvent m) (factor m) (at m) ts (top (resolvent m) (factor m) (at m) ts) in
      elements-append (map (λ (t : Combination × ℤ). (t.0, k *ℤ t.1)) (kept (at m) ts))
      (joined_pairs (resolvent m) (factor m) (above (at m) ts) (below (at m) ts))
      ∙ (λ i. (elements-scaled k (kept (at m) ts) ∙ elements-filter (λ c. is_zero (at m c)) ts) i ++
      elements-pairs (above (at m) ts) (below (at m) ts) i)
      ∙ (λ i. without m (elements ts) ++ pairs m
      (elements-filter (λ c. int_lt (pos 0) (at m c)) ts i)
      (elements-filter (λ c. int_lt (at m c) (pos 0)) ts i))

-- ---- polynomials stay polynomials

good-append : (cs ds : List Combination) → list_all good cs ≡ true → list_all good ds ≡ true →
    list_all good (cs ++ ds) ≡ true
good-append [] ds h g = g
good-append (c ∷ cs) ds h g =
    let parts = and_parts (good c) (list_all good cs) h in
    and_from (good c) (list_all good (cs ++ ds)) parts.0 (good-append cs ds parts.1 g)

good-with : (m : Mono) (p : Combination) (qs : List Combination) →
    list_all (resolvent_within m p) qs ≡
    true → good p ≡ true → list_all good qs ≡ true → list_all good (map (resolvent m p) qs) ≡ true
good-with m p [] w h g = refl
good-with m p (q ∷ qs) w h g =
    let within = and_parts (resolvent_within m p q) (list_all (resolvent_within m p) qs) w in
    let parts = and_parts (good q) (list_all good qs) g in
    and_from (good (resolvent m p q)) (list_all good (map (resolvent m p) qs))
    (joined_good m p q h parts.0 within.0) (good-with m p qs within.1 h parts.1)

good-pairs : (m : Mono) (ps qs : List Combination) → pairs_within m ps qs ≡ true →
    list_all good ps ≡ true → list_all good qs ≡ true → list_all good (pairs m ps qs) ≡ true
good-pairs m [] qs w h g = refl
good-pairs m (p ∷ ps) qs w h g =
    let within = and_parts (list_all (resolvent_within m p) qs) (pairs_within m ps qs) w in
    let parts = and_parts (good p) (list_all good ps) h in
    good-append (map (resolvent m p) qs) (pairs m ps qs) (good-with m p qs within.0 parts.0 g)
    (good-pairs m ps qs within.1 parts.1 g)

good-stage : (limit : ℕ) (m : Mono) (cs : List Combination) → stage_within limit m cs ≡ true →
    list_all good cs ≡ true → list_all good (stage m cs) ≡ true
good-stage limit m cs w h =
    let within = and_parts (nat_le (length (stage m cs)) limit)
    (pairs_within m (positive m cs) (negative m cs)) w in
    good-append (without m cs) (pairs m (positive m cs) (negative m cs))
    (good-filter (λ c. is_zero (at m c)) cs h)
    (good-pairs m (positive m cs) (negative m cs) within.1
    (good-filter (λ c. int_lt (pos 0) (at m c)) cs h)
    (good-filter (λ c. int_lt (at m c) (pos 0)) cs h))

-- ---- weights that show a contradiction

pub record Refuting (ts : List (Combination × ℤ)) : Type 0 where
  pub weights : Every NotNegative ts
  pub cancels : (x : Mono) → is_one x ≡ false → sum_terms (at x) ts ≡ pos 0
  pub below_zero : sum_terms (at one) ts <ℤ pos 0

every_good : (ts : List (Combination × ℤ)) → list_all good (elements ts) ≡ true →
    Every (λ t. good t.0 ≡ true) ts
every_good [] h = tt
every_good (t ∷ ts) h =
    let parts = and_parts (good t.0) (list_all good (elements ts)) h in
    (parts.0, every_good ts parts.1)

scaled_weights : (k : ℤ) (ts : List (Combination × ℤ)) → pos 0 ≤ℤ k → Every NotNegative ts →
    Every NotNegative (map (λ (t : Combination × ℤ). (t.0, k *ℤ t.1)) ts)
scaled_weights k [] h g = tt
scaled_weights k (t ∷ ts) h g = (product_not_negative k t.1 h g.0, scaled_weights k ts h g.1)

with_weights : (m : Mono) (p : Combination × ℤ) (qs : List (Combination × ℤ)) → pos 0 ≤ℤ p.1 →
    Every NotNegative qs → Every NotNegative (joined_with (resolvent m) (factor m) p qs)
with_weights m p [] h g = tt
with_weights m p (q ∷ qs) h g = (
  product_not_negative (p.1 *ℤ q.1) (factor m p.0 q.0) (product_not_negative p.1 q.1 h g.0)
      (factor_not_negative m p.0 q.0),
  with_weights m p qs h g.1,
)

pairs_weights : (m : Mono) (ps qs : List (Combination × ℤ)) → Every NotNegative ps →
    Every NotNegative qs → Every NotNegative (joined_pairs (resolvent m) (factor m) ps qs)
pairs_weights m [] qs h g = tt
pairs_weights m (p ∷ ps) qs h g =
    every-append NotNegative (joined_with (resolvent m) (factor m) p qs)
    (joined_pairs (resolvent m) (factor m) ps qs) (with_weights m p qs h.0 g)
    (pairs_weights m ps qs h.1 g)

filtered_weights : (test : Combination → Bool) (ts : List (Combination × ℤ)) →
    Every NotNegative ts → Every NotNegative (filter (λ (t : Combination × ℤ). test t.0) ts)
filtered_weights test ts h =
    every-weaker (λ t. NotNegative t × (test t.0 ≡ true)) NotNegative
    (filter (λ (t : Combination × ℤ). test t.0) ts) (λ t g. g.0)
    (every-filter NotNegative test ts h)

-- the joint ones have the values that the two have, crosswise, at every monomial
all_cross : (m x : Mono) (ts : List (Combination × ℤ)) → list_all good (elements ts) ≡ true →
    Every (λ p. Every (λ q. Crosswise (resolvent m) (factor m) (at m) (at x) p.0 q.0)
    (below (at m) ts)) (above (at m) ts)
all_cross m x ts h =
    let goods = every_good ts h in
    let ups = every-filter (λ t. good t.0 ≡ true) (λ c. int_lt (pos 0) (at m c)) ts goods in
    let downs = every-filter (λ t. good t.0 ≡ true) (λ c. int_lt (at m c) (pos 0)) ts goods in
    every-weaker (λ p. (good p.0 ≡ true) × (int_lt (pos 0) (at m p.0) ≡ true))
    (λ p. Every (λ q. Crosswise (resolvent m) (factor m) (at m) (at x) p.0 q.0) (below (at m) ts))
    (above (at m) ts)
    (λ p u. every-weaker (λ q. (good q.0 ≡ true) × (int_lt (at m q.0) (pos 0) ≡ true))
    (λ q. Crosswise (resolvent m) (factor m) (at m) (at x) p.0 q.0) (below (at m) ts)
    (λ q d. cross m p.0 q.0 u.0 d.0 x (above_of (at m p.0) u.1) (below_of (at m q.0) d.1)) downs)
    ups

still_below : (k z : ℤ) → pos 0 <ℤ k → z <ℤ pos 0 → (k *ℤ z) <ℤ pos 0
still_below (pos zero) z h g = absurd (omega (arith, ints))
still_below (pos (suc n)) (pos z) h g = absurd (omega (arith, ints))
still_below (pos (suc n)) (negsuc z) h g = omega (arith, ints)
still_below (negsuc n) z h g = absurd (omega (arith, ints))

-- a stage keeps that there are such weights
stage_keeps : (m : Mono) (ts : List (Combination × ℤ)) → is_one m ≡ false →
    list_all good (elements ts) ≡ true → Refuting ts → Refuting (behind m ts)
stage_keeps m ts o h r =
    let k = growth (resolvent m) (factor m) (at m) ts (top (resolvent m) (factor m) (at m) ts) in
    let up = growth_above (resolvent m) (factor m) (at m) ts
    (top (resolvent m) (factor m) (at m) ts) in
    let sums = λ (x : Mono). stage_sum (resolvent m) (factor m) (at m) ts r.weights (r.cancels m o)
    (at x) (all_cross m x ts h) in
    record {
      weights =
          every-append NotNegative (map (λ (t : Combination × ℤ). (t.0, k *ℤ t.1)) (kept (at m) ts))
          (joined_pairs (resolvent m) (factor m) (above (at m) ts) (below (at m) ts))
          (scaled_weights k (kept (at m) ts) (omega (arith, ints))
          (filtered_weights (λ c. is_zero (at m c)) ts r.weights))
          (pairs_weights m (above (at m) ts) (below (at m) ts)
          (filtered_weights (λ c. int_lt (pos 0) (at m c)) ts r.weights)
          (filtered_weights (λ c. int_lt (at m c) (pos 0)) ts r.weights));
      cancels = λ x g. sums x ∙ ap (λ z. k *ℤ z) (r.cancels x g) ∙ mul-zero-int k;
      below_zero =
          subst (λ z. z <ℤ pos 0) (sym (sums one))
          (still_below k (sum_terms (at one) ts) up r.below_zero);
    }

-- ---- the end

by_constant : (c : Combination) (k : ℤ) → constant_of (out-Body c.poly).terms ≡ Some k →
    is_negative c ≡ false → pos 0 ≤ℤ at one c
by_constant c k e h =
    let not_below : int_lt k (pos 0) ≡ false = ap is_below_zero (sym e) ∙ h in
    let low : pos 0 ≤ℤ k = grind (arith, ints) in
    subst (λ z. pos 0 ≤ℤ z) (sym (only_number (out-Body c.poly).terms k e).number) low

number_not_negative : (c : Combination) → good c ≡ true →
    ((x : Mono) → is_one x ≡ false → at x c ≡ pos 0) → is_negative c ≡ false → pos 0 ≤ℤ at one c
number_not_negative c h g n =
    let number = numeral (out-Body c.poly).terms (poly_terms c.poly h).listed g in
    by_constant c number.value number.is n

by_negative : (c : Combination) (cs : List Combination) (b : Bool) → is_negative c ≡ b →
    cond b (Some c.multipliers) (first_negative cs) ≡ None → (is_negative c ≡ false) ×
    (first_negative cs ≡ None)
by_negative c cs true h e = cc
by_negative c cs false h e = (h, e)

sum_of_numbers : (ts : List (Combination × ℤ)) → list_all good (elements ts) ≡ true →
    ((x : Mono) → is_one x ≡ false → Lacks x (elements ts)) → first_negative (elements ts) ≡ None →
    Every NotNegative ts → pos 0 ≤ℤ sum_terms (at one) ts
sum_of_numbers [] h g e w = omega (arith, ints)
sum_of_numbers (t ∷ ts) h g e w =
    let parts = and_parts (good t.0) (list_all good (elements ts)) h in
    let none = by_negative t.0 (elements ts) (is_negative t.0) refl e in
    let here = product_not_negative t.1 (at one t.0) w.0
    (number_not_negative t.0 parts.0 (λ x o. (g x o).0) none.0) in
    let rest = sum_of_numbers ts parts.1 (λ x o. (g x o).1) none.1 w.1 in
    omega (arith, ints)

-- ---- all stages

found_none : (o : Option (List ℤ)) (further : EliminationEnd) → found_or o further ≡ nothing →
    (o ≡ None) ×
    (further ≡ nothing)
found_none None further e = (refl, e)
found_none (Some ms) further e = cc

within_none : (b : Bool) (further : EliminationEnd) → cond b further Large ≡ nothing → (b ≡ true) ×
    (further ≡ nothing)
within_none true further e = (refl, e)
within_none false further e = cc

no_weights : (limit : ℕ) (ms : List Mono) (ts : List (Combination × ℤ)) →
    eliminate limit ms (elements ts) ≡ nothing → list_all good (elements ts) ≡ true →
    Covers ms (elements ts) → Refuting ts → ⊥
no_weights limit [] ts e h c r =
    let none = found_none (first_negative (elements ts)) nothing e in
    let low = sum_of_numbers ts h (λ x o. c.lacks x o tt) none.0 r.weights in
    let under = r.below_zero in
    omega (arith, ints)
no_weights limit (m ∷ ms) ts e h c r =
    let further : EliminationEnd = cond (stage_within limit m (elements ts))
    (eliminate limit ms (stage m (elements ts))) Large in
    let none = found_none (first_negative (elements ts)) further e in
    let within = within_none (stage_within limit m (elements ts))
    (eliminate limit ms (stage m (elements ts))) none.1 in
    let same = elements-after m ts in
    let other : is_one m ≡ false = not-true (is_one m)
    (and_parts (not (is_one m)) (list_all (λ x. not (is_one x)) ms) c.none_one).0 in
    no_weights limit ms (behind m ts)
    (ap (eliminate limit ms) same ∙ within.1)
    (ap (list_all good) same ∙ good-stage limit m (elements ts) within.0 h)
    (subst (Covers ms) (sym same) (next_covers m ms (elements ts) h c))
    (stage_keeps m ts other h r)

-- ---- the polynomials given

paired : List Combination → List ℤ → List (Combination × ℤ)
paired [] ms = []
paired (c ∷ cs) [] = []
paired (c ∷ cs) (m ∷ ms) = (c, m) ∷ paired cs ms

module _ (count : ℕ) where
  paired_elements : (place : ℕ) (ps : List Body) (ms : List ℤ) → length ms ≡ length ps →
      elements (paired (given_from place count ps) ms) ≡ given_from place count ps
  unfolding paired
  paired_elements place [] ms e = refl
  paired_elements place (p ∷ ps) [] e = absurd (omega arith)
  paired_elements place (p ∷ ps) (m ∷ ms) e =
      ap (λ cs. record { poly = p; multipliers = unit count place } ∷ cs)
      (paired_elements (suc place) ps ms (omega arith))

  paired_sum : (x : Mono) (place : ℕ) (ps : List Body) (ms : List ℤ) →
      sum_terms (at x) (paired (given_from place count ps) ms) ≡ total x ps ms
  unfolding paired
  paired_sum x place [] ms = refl
  paired_sum x place (p ∷ ps) [] = refl
  paired_sum x place (p ∷ ps) (m ∷ ms) =
      ap (λ z. m *ℤ coefficient x (out-Body p).terms +ℤ z) (paired_sum x (suc place) ps ms)

  paired_weights : (place : ℕ) (ps : List Body) (ms : List ℤ) → All (λ m. pos 0 ≤ℤ m) ms →
      Every NotNegative (paired (given_from place count ps) ms)
  unfolding paired
  paired_weights place [] ms h = tt
  paired_weights place (p ∷ ps) [] h = tt
  paired_weights place (p ∷ ps) (m ∷ ms) h = (
    All-head (λ k. pos 0 ≤ℤ k) m ms h,
    paired_weights (suc place) ps ms
        (All-tail (λ k. pos 0 ≤ℤ k) m ms h),
  )

  given_good : (place : ℕ) (ps : List Body) → list_all is_poly ps ≡ true →
      list_all good (given_from place count ps) ≡ true
  given_good place [] h = refl
  given_good place (p ∷ ps) h =
      let parts = and_parts (is_poly p) (list_all is_poly ps) h in
      and_from (is_poly p) (list_all good (given_from (suc place) count ps)) parts.0
      (given_good (suc place) ps parts.1)

-- where the elimination ends with nothing, no multipliers show a contradiction
pub none : (limit : ℕ) (ps : List Body) → list_all is_poly ps ≡ true → elimination limit ps ≡
    nothing → (ms : List ℤ) → IsWitness ps ms → ⊥
none limit ps h e ms w =
    let count = length ps in
    let ts = paired (given ps) ms in
    let same = paired_elements count 0 ps ms w.one_each in
    let ends = (within_none (nat_le count limit) (eliminate limit (monomials ps) (given ps)) e).1
    in
    no_weights limit (monomials ps) ts
    (ap (eliminate limit (monomials ps)) same ∙ ends)
    (ap (list_all good) same ∙ given_good count 0 ps h)
    (subst (Covers (monomials ps)) (sym same) (given_covers 0 count ps))
    (record {
      weights = paired_weights count 0 ps ms w.none_negative;
      cancels = λ x o. paired_sum count x 0 ps ms ∙ w.cancels x o;
      below_zero = subst (λ z. z <ℤ pos 0) (sym (paired_sum count one 0 ps ms)) w.below_zero;
    })
