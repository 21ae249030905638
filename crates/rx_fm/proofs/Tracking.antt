-- Each combination of an elimination is the sum of the polynomials given with its multipliers,
-- which are not negative.
use Rattle.std.proofs.Common.{◌≡◌, ◌∙◌, ap, subst, Bool, true, false, cond, refl, sym, List, [], ◌∷◌, ◌++◌, map, filter, replicate, length, length-append, append_assoc, ℕ, zero, suc, ◌+◌, ◌*◌, ◌/◌, nat_le, Option, Some, None, All, ℤ, pos, negsuc, ◌+ℤ◌, ◌*ℤ◌, ◌≤ℤ◌, ◌<ℤ◌, int_lt, unsigned_abs, arith}
use Rattle.std.proofs.lemmas.Int.{ints}
use Rattle.std.proofs.lemmas.Bool.{and_parts}
use Rattle.std.proofs.lemmas.List.Elements.{All-cons, All-head, All-nil, All-replicate, All-set, All-tail}
use Rattle.std.proofs.Math.Nat.{mul-div_cancel_left}
use Rattle.std.proofs.Math.ListN.{length-set, length-replicate}
use Rattle.std.specs.List.{list_all}
use lib.IntN.{*ℤ_comm}
use borrow.Author.Differences.{up, down, same_in, product_is}
use Rattle.rx_plain.proofs.Integers.{add-mul-int, mul-add-int, mul-assoc-int, mul-zero-int, one-mul-int, zero-mul-int}
use Rattle.rx_poly.specs.Normal.{is_poly}
use Rattle.rx_poly.specs.Reading.{coefficient, constant_of}
use Rattle.rx_poly.specs.Terms.{is_zero}
use Rattle.rx_poly.specs.Value.{quotient}
use Rattle.rx_poly.specs.declared.body.Body.{Body, out-Body}
use Rattle.rx_poly.specs.declared.body.Mono.{Mono}
use Rattle.rx_fm.specs.Elimination.{EliminationEnd, at, Large, common_divisor, eliminate, first_negative, found, found_or, given, given_from, is_below_zero, is_negative, elimination, resolvent, resolvent_within, monomials, negative, stage, stage_within, nothing, pairs, pairs_within, positive, unit, without}
use Rattle.rx_fm.specs.Numbers.{combined, divides_all, gcd, quotients}
use Rattle.rx_fm.specs.Witness.{IsWitness, one, total}
use Rattle.rx_fm.specs.declared.combination.Combination.{Combination}
use Rattle.rx_fm.proofs.Coefficients.{divides_coefficient, only_number}
use Rattle.rx_fm.proofs.Dividing.{common_divides, divides, exact, quotient_is}
use Rattle.rx_fm.proofs.Joined.{at-crossed, at-primitive_part, crossed, joined_good}
use Rattle.rx_fm.proofs.Sums.{product_not_negative}

abbrev pub NotNegative : ℤ → Type 0
NotNegative m = pos 0 ≤ℤ m

-- ---- multipliers that are combined

module _ (k l : ℤ) where
  pub length-combined : (ms ns : List ℤ) → length ms ≡ length ns → length (combined k ms l ns) ≡
      length ms
  length-combined [] ns e = refl
  length-combined (m ∷ ms) [] e = absurd (omega arith)
  length-combined (m ∷ ms) (n ∷ ns) e =
      let rest = length-combined ms ns (omega arith) in omega arith

  pub combined_not_negative : pos 0 ≤ℤ k → pos 0 ≤ℤ l → (ms ns : List ℤ) → All NotNegative ms →
      All NotNegative ns → All NotNegative (combined k ms l ns)
  combined_not_negative h g [] ns a b = All-nil NotNegative
  combined_not_negative h g (m ∷ ms) [] a b = All-nil NotNegative
  combined_not_negative h g (m ∷ ms) (n ∷ ns) a b =
      let first = product_not_negative m k (All-head NotNegative m ms a) h in
      let second = product_not_negative n l (All-head NotNegative n ns b) g in
      All-cons NotNegative (m *ℤ k +ℤ n *ℤ l) (combined k ms l ns) (omega (arith, ints))
      (combined_not_negative h g ms ns (All-tail NotNegative m ms a) (All-tail NotNegative n ns b))

  pub total-combined : (x : Mono) (ps : List Body) (ms ns : List ℤ) → length ms ≡ length ps →
      length ns ≡ length ps → total x ps (combined k ms l ns) ≡
      total x ps ms *ℤ k +ℤ total x ps ns *ℤ l
  total-combined x [] ms ns e f = sym (λ i. zero-mul-int k i +ℤ zero-mul-int l i)
  total-combined x (p ∷ ps) [] ns e f = absurd (omega arith)
  total-combined x (p ∷ ps) (m ∷ ms) [] e f = absurd (omega arith)
  total-combined x (p ∷ ps) (m ∷ ms) (n ∷ ns) e f =
      let c = coefficient x (out-Body p).terms in
      let rest = total-combined x ps ms ns (omega arith) (omega arith) in
      let here = add-mul-int (m *ℤ k) (n *ℤ l) c in
      let turn : (a b : ℤ) → (a *ℤ b) *ℤ c ≡ (a *ℤ c) *ℤ b = λ (a b : ℤ). mul-assoc-int a b c ∙
      ap (λ z. a *ℤ z) (*ℤ_comm b c) ∙ sym (mul-assoc-int a c b) in
      let first = turn m k in
      let second = turn n l in
      let left = add-mul-int (m *ℤ c) (total x ps ms) k in
      let right = add-mul-int (n *ℤ c) (total x ps ns) l in
      omega (arith, ints)

-- ---- multipliers that are divided

pub length-quotients : (d : ℕ) (ms : List ℤ) → length (quotients d ms) ≡ length ms
length-quotients d [] = refl
length-quotients d (m ∷ ms) = let e = length-quotients d ms in omega arith

quotient_not_negative : (d : ℕ) (m : ℤ) → pos 0 ≤ℤ m → pos 0 ≤ℤ quotient m (pos d)
quotient_not_negative zero m h = omega (arith, ints)
quotient_not_negative (suc d) (pos n) h =
    subst (λ z. pos 0 ≤ℤ z) (sym (quotient_is (pos n) d)) (omega (arith, ints))
quotient_not_negative (suc d) (negsuc n) h = absurd (omega (arith, ints))

pub quotients_not_negative : (d : ℕ) (ms : List ℤ) → All NotNegative ms →
    All NotNegative (quotients d ms)
quotients_not_negative d [] h = All-nil NotNegative
quotients_not_negative d (m ∷ ms) h =
    All-cons NotNegative (quotient m (pos d)) (quotients d ms)
    (quotient_not_negative d m (All-head NotNegative m ms h))
    (quotients_not_negative d ms (All-tail NotNegative m ms h))

total-quotients : (x : Mono) (ps : List Body) (d : ℕ) (ms : List ℤ) → divides_all d ms ≡ true →
    pos d *ℤ total x ps (quotients d ms) ≡ total x ps ms
total-quotients x [] d ms h = mul-zero-int (pos d)
total-quotients x (p ∷ ps) d [] h = mul-zero-int (pos d)
total-quotients x (p ∷ ps) d (m ∷ ms) h =
    let c = coefficient x (out-Body p).terms in
    let parts = and_parts (divides d m) (divides_all d ms) h in
    let rest = total-quotients x ps d ms parts.1 in
    let both = mul-add-int (pos d) (quotient m (pos d) *ℤ c) (total x ps (quotients d ms)) in
    let here : pos d *ℤ (quotient m (pos d) *ℤ c) ≡ m *ℤ c =
    sym (mul-assoc-int (pos d) (quotient m (pos d)) c) ∙ ap (λ z. z *ℤ c) (exact d m parts.0) in
    omega (arith, ints)

total-nothing : (x : Mono) (ps : List Body) (ms : List ℤ) → total x ps (quotients 0 ms) ≡ pos 0
total-nothing x [] ms = refl
total-nothing x (p ∷ ps) [] = refl
total-nothing x (p ∷ ps) (m ∷ ms) =
    let rest = total-nothing x ps ms in
    let here = zero-mul-int (coefficient x (out-Body p).terms) in
    omega (arith, ints)

-- a factor above 0 may be left out on both sides
same_product : (d u v : ℕ) → suc d * u ≡ suc d * v → u ≡ v
same_product d u v e =
    sym (mul-div_cancel_left u {n = suc d} (omega arith)) ∙ ap (λ z. z / suc d) e ∙
    mul-div_cancel_left v {n = suc d} (omega arith)

pub same_factor : (d : ℕ) (x y : ℤ) → pos (suc d) *ℤ x ≡ pos (suc d) *ℤ y → x ≡ y
same_factor d x y e =
    let px = product_is (pos (suc d)) x in
    let py = product_is (pos (suc d)) y in
    let both : suc d * (up x + down y) ≡ suc d * (up y + down x) =
    omega (arith, px, py, ap up e, ap down e) in
    same_in x y (let k = same_product d (up x + down y) (up y + down x) both in omega arith)

divided_total : (x : Mono) (ps : List Body) (d : ℕ) (ms : List ℤ) (y : ℤ) → divides_all d ms ≡
    true → divides d y ≡ true → y ≡ total x ps ms → quotient y (pos d) ≡ total x ps (quotients d ms)
divided_total x ps zero ms y h g e = sym (total-nothing x ps ms)
divided_total x ps (suc d) ms y h g e =
    same_factor d (quotient y (pos (suc d))) (total x ps (quotients (suc d) ms))
    (exact (suc d) y g ∙ e ∙ sym (total-quotients x ps (suc d) ms h))

-- ---- what is kept

-- a polynomial that is, coefficient by coefficient, the sum of those given with its multipliers
pub record Tracked (ps : List Body) (c : Combination) : Type 0 where
  pub good : is_poly c.poly ≡ true
  pub one_each : length c.multipliers ≡ length ps
  pub none_negative : All NotNegative c.multipliers
  pub same : (x : Mono) → at x c ≡ total x ps c.multipliers

-- two that are joined
joined_tracked : (ps : List Body) (m : Mono) (p q : Combination) → resolvent_within m p q ≡ true →
    Tracked ps p → Tracked ps q → Tracked ps (resolvent m p q)
joined_tracked ps m p q w t u =
    let g = gcd (unsigned_abs (at m p)) (unsigned_abs (at m q)) in
    let k = pos (unsigned_abs (at m q) / g) in
    let l = pos (unsigned_abs (at m p) / g) in
    let c = crossed m p q in
    let same : (x : Mono) → at x c ≡ total x ps c.multipliers = λ x.
    at-crossed m p q t.good u.good x ∙ (λ i. t.same x i *ℤ k +ℤ u.same x i *ℤ l) ∙
    sym (total-combined k l x ps p.multipliers q.multipliers t.one_each u.one_each) in
    let divisors = common_divides c in
    let long = length-combined k l p.multipliers q.multipliers (t.one_each ∙ sym u.one_each) in
    record {
      good = joined_good m p q t.good u.good w;
      one_each = length-quotients (common_divisor c) c.multipliers ∙ long ∙ t.one_each;
      none_negative =
          quotients_not_negative (common_divisor c) c.multipliers
          (combined_not_negative k l (omega (arith, ints)) (omega (arith, ints)) p.multipliers
          q.multipliers t.none_negative u.none_negative);
      same =
          λ x. at-primitive_part x c ∙ divided_total x ps (common_divisor c) c.multipliers (at x c)
          divisors.1
          (divides_coefficient x (common_divisor c) (out-Body c.poly).terms divisors.0) (same x);
    }

-- ---- all that are there

abbrev pub AllTracked : List Body → List Combination → Type 0
AllTracked ps [] = Unit {0}
AllTracked ps (c ∷ cs) = Tracked ps c × AllTracked ps cs

tracked-append : (ps : List Body) (cs ds : List Combination) → AllTracked ps cs → AllTracked ps ds →
    AllTracked ps (cs ++ ds)
tracked-append ps [] ds h g = g
tracked-append ps (c ∷ cs) ds h g = (h.0, tracked-append ps cs ds h.1 g)

by_test : (ps : List Body) (c : Combination) (cs : List Combination) → Tracked ps c →
    AllTracked ps cs → (b : Bool) → AllTracked ps (cond b (c ∷ cs) cs)
by_test ps c cs t h true = (t, h)
by_test ps c cs t h false = h

tracked-filter : (ps : List Body) (test : Combination → Bool) (cs : List Combination) →
    AllTracked ps cs → AllTracked ps (filter test cs)
tracked-filter ps test [] h = tt
tracked-filter ps test (c ∷ cs) h =
    by_test ps c (filter test cs) h.0 (tracked-filter ps test cs h.1) (test c)

tracked-resolvent : (ps : List Body) (m : Mono) (p : Combination) (qs : List Combination) →
    list_all (resolvent_within m p) qs ≡ true → Tracked ps p → AllTracked ps qs →
    AllTracked ps (map (resolvent m p) qs)
tracked-resolvent ps m p [] w t h = tt
tracked-resolvent ps m p (q ∷ qs) w t h =
    let parts = and_parts (resolvent_within m p q) (list_all (resolvent_within m p) qs) w in
    (joined_tracked ps m p q parts.0 t h.0, tracked-resolvent ps m p qs parts.1 t h.1)

tracked-pairs : (ps : List Body) (m : Mono) (firsts seconds : List Combination) →
    pairs_within m firsts seconds ≡ true → AllTracked ps firsts → AllTracked ps seconds →
    AllTracked ps (pairs m firsts seconds)
tracked-pairs ps m [] qs w h g = tt
tracked-pairs ps m (p ∷ firsts) qs w h g =
    let parts = and_parts (list_all (resolvent_within m p) qs) (pairs_within m firsts qs) w in
    tracked-append ps (map (resolvent m p) qs) (pairs m firsts qs)
    (tracked-resolvent ps m p qs parts.0 h.0 g) (tracked-pairs ps m firsts qs parts.1 h.1 g)

tracked-stage : (ps : List Body) (limit : ℕ) (m : Mono) (cs : List Combination) →
    stage_within limit m cs ≡ true → AllTracked ps cs → AllTracked ps (stage m cs)
tracked-stage ps limit m cs w h =
    let parts = and_parts (nat_le (length (stage m cs)) limit)
    (pairs_within m (positive m cs) (negative m cs)) w in
    tracked-append ps (without m cs) (pairs m (positive m cs) (negative m cs))
    (tracked-filter ps (λ c. is_zero (at m c)) cs h)
    (tracked-pairs ps m (positive m cs) (negative m cs) parts.1
    (tracked-filter ps (λ c. int_lt (pos 0) (at m c)) cs h)
    (tracked-filter ps (λ c. int_lt (at m c) (pos 0)) cs h))

-- ---- the polynomials as they are given

total-zeros : (x : Mono) (ps : List Body) (n : ℕ) → total x ps (replicate n (pos 0)) ≡ pos 0
total-zeros x [] n = refl
total-zeros x (p ∷ ps) zero = refl
total-zeros x (p ∷ ps) (suc n) =
    let rest = total-zeros x ps n in
    let here = zero-mul-int (coefficient x (out-Body p).terms) in
    omega (arith, ints)

total-unit : (x : Mono) (before : List Body) (p : Body) (behind : List Body) →
    total x (before ++ p ∷ behind) (unit (length (before ++ p ∷ behind)) (length before)) ≡
    coefficient x (out-Body p).terms
total-unit x [] p behind =
    let rest = total-zeros x behind (length behind) in
    let here = one-mul-int (coefficient x (out-Body p).terms) in
    omega (arith, ints)
total-unit x (b ∷ before) p behind =
    let rest = total-unit x before p behind in
    let here = zero-mul-int (coefficient x (out-Body b).terms) in
    omega (arith, ints)

tracked-given_from : (ps before qs : List Body) → before ++ qs ≡ ps → list_all is_poly qs ≡ true →
    AllTracked ps (given_from (length before) (length ps) qs)
tracked-given_from ps before [] e h = tt
tracked-given_from ps before (q ∷ qs) e h =
    let parts = and_parts (is_poly q) (list_all is_poly qs) h in
    let next_place : length (before ++ q ∷ []) ≡ suc (length before) =
    length-append before (q ∷ []) ∙ omega arith in (
      record {
        good = parts.0;
        one_each =
            length-set (replicate (length ps) (pos 0)) (length before) (pos 1) ∙
            length-replicate (length ps) (pos 0);
        none_negative =
            All-set NotNegative (replicate (length ps) (pos 0)) (length before) (pos 1)
            (omega (arith, ints)) (All-replicate NotNegative (length ps) (pos 0)
            (omega (arith, ints)));
        same =
            λ x. subst (λ (rs : List Body). coefficient x (out-Body q).terms ≡
            total x rs (unit (length rs) (length before))) e (sym (total-unit x before q qs));
      },
      subst (λ n. AllTracked ps (given_from n (length ps) qs)) next_place
          (tracked-given_from ps (before ++ q ∷ []) qs (append_assoc before (q ∷ []) qs ∙ e)
          parts.1),
    )

pub tracked-given : (ps : List Body) → list_all is_poly ps ≡ true → AllTracked ps (given ps)
tracked-given ps h = tracked-given_from ps [] ps refl h

-- ---- what is found

below_zero : (k : ℤ) → int_lt k (pos 0) ≡ true → k <ℤ pos 0
below_zero k e = grind (arith, ints)

by_constant : (ps : List Body) (c : Combination) → Tracked ps c → (o : Option ℤ) →
    constant_of (out-Body c.poly).terms ≡ o → is_below_zero o ≡ true → IsWitness ps c.multipliers
by_constant ps c t None e h = cc
by_constant ps c t (Some k) e h =
    let only = only_number (out-Body c.poly).terms k e in
    record {
      one_each = t.one_each;
      none_negative = t.none_negative;
      cancels = λ x g. sym (t.same x) ∙ only.others x g;
      below_zero = subst (λ z. z <ℤ pos 0) (sym only.number ∙ t.same one) (below_zero k h);
    }

some_multipliers : (ms ns : List ℤ) → Some ms ≡ Some ns → ms ≡ ns
some_multipliers ms ns e = cc

by_negative : (ps : List Body) (c : Combination) (cs : List Combination) (ms : List ℤ) →
    Tracked ps c → (first_negative cs ≡ Some ms → IsWitness ps ms) → (b : Bool) → is_negative c ≡
    b → cond b (Some c.multipliers) (first_negative cs) ≡ Some ms → IsWitness ps ms
by_negative ps c cs ms t rest true h e =
    subst (IsWitness ps) (some_multipliers c.multipliers ms e)
    (by_constant ps c t (constant_of (out-Body c.poly).terms) refl h)
by_negative ps c cs ms t rest false h e = rest e

-- a negative number that is there shows the contradiction
negative_shows : (ps : List Body) (cs : List Combination) (ms : List ℤ) → AllTracked ps cs →
    first_negative cs ≡ Some ms → IsWitness ps ms
negative_shows ps [] ms h e = cc
negative_shows ps (c ∷ cs) ms h e =
    by_negative ps c cs ms h.0 (negative_shows ps cs ms h.1) (is_negative c) refl e

some_found : (ms ns : List ℤ) → found ms ≡ found ns → ms ≡ ns
some_found ms ns e = cc

by_first : (ps : List Body) (cs : List Combination) (ms : List ℤ) (further : EliminationEnd) →
    AllTracked ps cs → (further ≡ found ms → IsWitness ps ms) → (o : Option (List ℤ)) →
    first_negative cs ≡ o → found_or o further ≡ found ms → IsWitness ps ms
by_first ps cs ms further h rest None e g = rest g
by_first ps cs ms further h rest (Some ns) e g =
    negative_shows ps cs ms h (e ∙ ap Some (some_found ns ms g))

by_within : (ps : List Body) (ms : List ℤ) (further : EliminationEnd) (b : Bool) →
    (b ≡ true → further ≡ found ms → IsWitness ps ms) → cond b further Large ≡ found ms →
    IsWitness ps ms
by_within ps ms further true rest e = rest refl e
by_within ps ms further false rest e = cc

found_shows : (ps : List Body) (limit : ℕ) (monos : List Mono) (cs : List Combination) (ms : List ℤ)
    → AllTracked ps cs → eliminate limit monos cs ≡ found ms → IsWitness ps ms
found_shows ps limit [] cs ms h e = by_first ps cs ms nothing h (λ g. cc) (first_negative cs) refl e
found_shows ps limit (m ∷ monos) cs ms h e =
    let further : EliminationEnd = cond (stage_within limit m cs)
    (eliminate limit monos (stage m cs))
    Large in
    by_first ps cs ms further h
    (λ g. by_within ps ms (eliminate limit monos (stage m cs)) (stage_within limit m cs)
    (λ w k. found_shows ps limit monos (stage m cs) ms (tracked-stage ps limit m cs w h) k) g)
    (first_negative cs) refl e

by_count : (ps : List Body) (ms : List ℤ) (further : EliminationEnd) (b : Bool) →
    (further ≡ found ms → IsWitness ps ms) → cond b further Large ≡ found ms → IsWitness ps ms
by_count ps ms further true rest e = rest e
by_count ps ms further false rest e = cc

-- multipliers that the elimination finds show the contradiction
pub witness : (limit : ℕ) (ps : List Body) (ms : List ℤ) → list_all is_poly ps ≡ true →
    elimination limit ps ≡ found ms → IsWitness ps ms
witness limit ps ms h e =
    by_count ps ms (eliminate limit (monomials ps) (given ps)) (nat_le (length ps) limit)
    (λ g. found_shows ps limit (monomials ps) (given ps) ms (tracked-given ps h) g) e
