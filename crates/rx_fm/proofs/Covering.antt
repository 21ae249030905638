-- Monomials that have no coefficient any more: those that are eliminated, and those that never had
-- one.
use Rattle.std.proofs.Common.{◌≡◌, ◌∙◌, ap, subst, Bool, true, false, not, cond, refl, sym, List, [], ◌∷◌, ◌++◌, map, filter, ℕ, zero, suc, ◌/◌, ◌<◌, ℤ, pos, negsuc, ◌+ℤ◌, ◌*ℤ◌, ◌<ℤ◌, int_lt, unsigned_abs, arith}
use Rattle.std.proofs.lemmas.Int.{ints}
use Rattle.std.proofs.lemmas.Bool.{and_parts, and_from}
use Rattle.std.specs.List.{list_all}
use Rattle.std.specs.declared.cmp.Ordering.{Ordering}
use Rattle.std.specs.declared.cmp.Ordering.TheVariants.{Less, Equal, Greater}
use Rattle.rx_poly.proofs.ReadingLaws.{itself}
use Rattle.rx_plain.proofs.Integers.{mul-zero-int, zero-mul-int}
use Rattle.rx_poly.specs.Order.{mono_cmp}
use Rattle.rx_poly.specs.Reading.{coefficient, found}
use Rattle.rx_poly.specs.Terms.{is_zero}
use Rattle.rx_poly.specs.Value.{quotient}
use Rattle.rx_poly.proofs.Same.{same_mono}
use Rattle.rx_poly.proofs.TermLaws.{zero_is}
use Rattle.rx_poly.specs.declared.body.Body.{Body, out-Body}
use Rattle.rx_poly.specs.declared.body.Mono.{Mono}
use Rattle.rx_fm.specs.Elimination.{at, at_place, common_divisor, given_from, is_one, resolvent, negative, stage, pairs, positive, with_all, with_mono, with_monos, without}
use Rattle.rx_fm.specs.Numbers.{gcd}
use Rattle.rx_fm.specs.declared.combination.Combination.{Combination}
use Rattle.rx_fm.proofs.Dividing.{quotient_zero}
use Rattle.rx_fm.proofs.Exact.{gcd_above_zero}
use Rattle.rx_fm.proofs.Joined.{at-crossed, at-primitive_part, crossed, crossed_vanishes, good}
use Rattle.rx_fm.proofs.Stages.{all_filtered}
use Rattle.rx_fm.proofs.Sums.{above_of, below_of}
use Rattle.rx_fm.proofs.Tracking.{same_factor}

-- the monomial is none of these
abbrev pub Missing : Mono → List Mono → Type 0
Missing x [] = Unit {0}
Missing x (m ∷ ms) = (x ≡ m → ⊥) × Missing x ms

-- it has no coefficient in any of these
abbrev pub Lacks : Mono → List Combination → Type 0
Lacks x [] = Unit {0}
Lacks x (c ∷ cs) = (at x c ≡ pos 0) × Lacks x cs

-- ---- what a stage keeps

lacks-append : (x : Mono) (cs ds : List Combination) → Lacks x cs → Lacks x ds → Lacks x (cs ++ ds)
lacks-append x [] ds h g = g
lacks-append x (c ∷ cs) ds h g = (h.0, lacks-append x cs ds h.1 g)

by_test : (x : Mono) (c : Combination) (cs : List Combination) → at x c ≡ pos 0 → Lacks x cs →
    (b : Bool) → Lacks x (cond b (c ∷ cs) cs)
by_test x c cs e h true = (e, h)
by_test x c cs e h false = h

lacks-filter : (x : Mono) (test : Combination → Bool) (cs : List Combination) → Lacks x cs →
    Lacks x (filter test cs)
lacks-filter x test [] h = tt
lacks-filter x test (c ∷ cs) h =
    by_test x c (filter test cs) h.0 (lacks-filter x test cs h.1) (test c)

-- two in which it has no coefficient are joined to one in which it has none
joined_lacks : (x m : Mono) (p q : Combination) → good p ≡ true → good q ≡ true → at x p ≡ pos 0 →
    at x q ≡ pos 0 → at x (resolvent m p q) ≡ pos 0
joined_lacks x m p q h g e f =
    let c = crossed m p q in
    let a = unsigned_abs (at m p) in
    let b = unsigned_abs (at m q) in
    let k = pos (b / gcd a b) in
    let l = pos (a / gcd a b) in
    at-primitive_part x c
    ∙ ap (λ z. quotient z (pos (common_divisor c)))
    (at-crossed m p q h g x ∙ (λ i. e i *ℤ k +ℤ f i *ℤ l) ∙
    (λ i. zero-mul-int k i +ℤ zero-mul-int l i))
    ∙ quotient_zero (common_divisor c)

with_lacks : (x m : Mono) (p : Combination) (qs : List Combination) → good p ≡ true →
    list_all good qs ≡ true → at x p ≡ pos 0 → Lacks x qs → Lacks x (map (resolvent m p) qs)
with_lacks x m p [] h g e f = tt
with_lacks x m p (q ∷ qs) h g e f =
    let parts = and_parts (good q) (list_all good qs) g in
    (joined_lacks x m p q h parts.0 e f.0, with_lacks x m p qs h parts.1 e f.1)

pairs_lack : (x m : Mono) (ps qs : List Combination) → list_all good ps ≡ true → list_all good qs ≡
    true → Lacks x ps → Lacks x qs → Lacks x (pairs m ps qs)
pairs_lack x m [] qs h g e f = tt
pairs_lack x m (p ∷ ps) qs h g e f =
    let parts = and_parts (good p) (list_all good ps) h in
    lacks-append x (map (resolvent m p) qs) (pairs m ps qs) (with_lacks x m p qs parts.0 g e.0 f)
    (pairs_lack x m ps qs parts.1 g e.1 f)

by_good : (c : Combination) (cs : List Combination) → good c ≡ true → list_all good cs ≡ true →
    (b : Bool) → list_all good (cond b (c ∷ cs) cs) ≡ true
by_good c cs e h true = and_from (good c) (list_all good cs) e h
by_good c cs e h false = h

pub good-filter : (test : Combination → Bool) (cs : List Combination) → list_all good cs ≡ true →
    list_all good (filter test cs) ≡ true
good-filter test [] h = refl
good-filter test (c ∷ cs) h =
    let parts = and_parts (good c) (list_all good cs) h in
    by_good c (filter test cs) parts.0 (good-filter test cs parts.1) (test c)

-- what has no coefficient before a stage has none after it
pub next_lacks : (x m : Mono) (cs : List Combination) → list_all good cs ≡ true → Lacks x cs →
    Lacks x (stage m cs)
next_lacks x m cs h e =
    lacks-append x (without m cs) (pairs m (positive m cs) (negative m cs))
    (lacks-filter x (λ c. is_zero (at m c)) cs e)
    (pairs_lack x m (positive m cs) (negative m cs)
    (good-filter (λ c. int_lt (pos 0) (at m c)) cs h)
    (good-filter (λ c. int_lt (at m c) (pos 0)) cs h)
    (lacks-filter x (λ c. int_lt (pos 0) (at m c)) cs e)
    (lacks-filter x (λ c. int_lt (at m c) (pos 0)) cs e))

-- ---- what a stage eliminates

size_some : (z : ℤ) → pos 0 <ℤ z → 0 < unsigned_abs z
size_some (pos n) h = omega (arith, ints)
size_some (negsuc n) h = absurd (omega (arith, ints))

no_factor : (g : ℕ) (z : ℤ) → 0 < g → pos g *ℤ z ≡ pos 0 → z ≡ pos 0
no_factor zero z h e = absurd (omega arith)
no_factor (suc g) z h e = same_factor g z (pos 0) (e ∙ sym (mul-zero-int (pos (suc g))))

joined_without : (m : Mono) (p q : Combination) → good p ≡ true → good q ≡ true →
    int_lt (pos 0) (at m p) ≡ true → int_lt (at m q) (pos 0) ≡ true → at m (resolvent m p q) ≡ pos 0
joined_without m p q h g e f =
    let c = crossed m p q in
    let up = above_of (at m p) e in
    let down = below_of (at m q) f in
    at-primitive_part m c
    ∙ ap (λ z. quotient z (pos (common_divisor c))) (no_factor
    (gcd (unsigned_abs (at m p)) (unsigned_abs (at m q))) (at m c)
    (gcd_above_zero (unsigned_abs (at m p)) (unsigned_abs (at m q)) (size_some (at m p) up))
    (crossed_vanishes m p q h g up down))
    ∙ quotient_zero (common_divisor c)

with_without : (m : Mono) (p : Combination) (qs : List Combination) → good p ≡ true →
    list_all good qs ≡ true → int_lt (pos 0) (at m p) ≡ true →
    list_all (λ c. int_lt (at m c) (pos 0)) qs ≡ true → Lacks m (map (resolvent m p) qs)
with_without m p [] h g e f = tt
with_without m p (q ∷ qs) h g e f =
    let parts = and_parts (good q) (list_all good qs) g in
    let signs = and_parts (int_lt (at m q) (pos 0)) (list_all (λ c. int_lt (at m c) (pos 0)) qs) f
    in
    (joined_without m p q h parts.0 e signs.0, with_without m p qs h parts.1 e signs.1)

pairs_without : (m : Mono) (ps qs : List Combination) → list_all good ps ≡ true → list_all good qs ≡
    true → list_all (λ c. int_lt (pos 0) (at m c)) ps ≡ true →
    list_all (λ c. int_lt (at m c) (pos 0)) qs ≡ true → Lacks m (pairs m ps qs)
pairs_without m [] qs h g e f = tt
pairs_without m (p ∷ ps) qs h g e f =
    let parts = and_parts (good p) (list_all good ps) h in
    let signs = and_parts (int_lt (pos 0) (at m p)) (list_all (λ c. int_lt (pos 0) (at m c)) ps) e
    in
    lacks-append m (map (resolvent m p) qs) (pairs m ps qs)
    (with_without m p qs parts.0 g signs.0 f)
    (pairs_without m ps qs parts.1 g signs.1 f)

without_lacks : (m : Mono) (cs : List Combination) → list_all (λ c. is_zero (at m c)) cs ≡ true →
    Lacks m cs
without_lacks m [] h = tt
without_lacks m (c ∷ cs) h =
    let parts = and_parts (is_zero (at m c)) (list_all (λ d. is_zero (at m d)) cs) h in
    (zero_is (at m c) parts.0, without_lacks m cs parts.1)

-- after a stage its monomial has no coefficient
pub next_without : (m : Mono) (cs : List Combination) → list_all good cs ≡ true →
    Lacks m (stage m cs)
next_without m cs h =
    lacks-append m (without m cs) (pairs m (positive m cs) (negative m cs))
    (without_lacks m (without m cs) (all_filtered (λ c. is_zero (at m c)) cs))
    (pairs_without m (positive m cs) (negative m cs)
    (good-filter (λ c. int_lt (pos 0) (at m c)) cs h)
    (good-filter (λ c. int_lt (at m c) (pos 0)) cs h)
    (all_filtered (λ c. int_lt (pos 0) (at m c)) cs)
    (all_filtered (λ c. int_lt (at m c) (pos 0)) cs))

-- ---- all that are to be eliminated

-- these are not 1, and every other monomial but 1 has no coefficient
pub record Covers (ms : List Mono) (cs : List Combination) : Type 0 where
  pub none_one : list_all (λ m. not (is_one m)) ms ≡ true
  pub lacks : (x : Mono) → is_one x ≡ false → Missing x ms → Lacks x cs

by_same : (x m : Mono) (ms : List Mono) (cs : List Combination) → list_all good cs ≡ true →
    Covers (m ∷ ms) cs → is_one x ≡ false → Missing x ms → (r : Ordering) → mono_cmp x m ≡ r →
    (x ≡ m → mono_cmp x m ≡ Equal) → Lacks x (stage m cs)
by_same x m ms cs h c o s Less e same =
    next_lacks x m cs h (c.lacks x o (λ k. let d : Less ≡ Equal = sym e ∙ same k in cc, s))
by_same x m ms cs h c o s Equal e same =
    subst (λ y. Lacks y (stage m cs)) (sym (same_mono x m e)) (next_without m cs h)
by_same x m ms cs h c o s Greater e same =
    next_lacks x m cs h (c.lacks x o (λ k. let d : Greater ≡ Equal = sym e ∙ same k in cc, s))

pub next_covers : (m : Mono) (ms : List Mono) (cs : List Combination) → list_all good cs ≡ true →
    Covers (m ∷ ms) cs → Covers ms (stage m cs)
next_covers m ms cs h c = record {
  none_one = (and_parts (not (is_one m)) (list_all (λ x. not (is_one x)) ms) c.none_one).1;
  lacks =
      λ x o s. by_same x m ms cs h c o s (mono_cmp x m) refl
      (λ k. ap (λ y. mono_cmp y m) k ∙ itself m);
}

-- ---- the monomials of the polynomials given

missing-place : (x k m : Mono) (ms further : List Mono) →
    (Missing x further → (x ≡ k → ⊥) × Missing x ms) → (r : Ordering) → mono_cmp k m ≡ r →
    Missing x (at_place r k m ms further) → (x ≡ k → ⊥) × Missing x (m ∷ ms)
missing-place x k m ms further rest Less e h = (h.0, h.1)
missing-place x k m ms further rest Equal e h = (λ d. h.0 (d ∙ same_mono k m e), h)
missing-place x k m ms further rest Greater e h = let r = rest h.1 in (r.0, (h.0, r.1))

missing-with_mono : (x k : Mono) (ms : List Mono) → Missing x (with_mono k ms) → (x ≡ k → ⊥) ×
    Missing x ms
missing-with_mono x k [] h = h
missing-with_mono x k (m ∷ ms) h =
    missing-place x k m ms (with_mono k ms) (missing-with_mono x k ms) (mono_cmp k m) refl h

by_one : (x k : Mono) (ms : List Mono) → is_one x ≡ false → (b : Bool) → is_one k ≡ b →
    Missing x (cond b ms (with_mono k ms)) → (x ≡ k → ⊥) × Missing x ms
by_one x k ms o true e h = (λ d. let no : false ≡ true = sym o ∙ ap is_one d ∙ e in cc, h)
by_one x k ms o false e h = missing-with_mono x k ms h

other_term : (x : Mono) (t : Mono × ℤ) (rest : ℤ) → (x ≡ t.0 → ⊥) → rest ≡ pos 0 → (r : Ordering) →
    mono_cmp x t.0 ≡ r → found r t.1 rest ≡ pos 0
other_term x t rest n e Less d = e
other_term x t rest n e Equal d = absurd (n (same_mono x t.0 d))
other_term x t rest n e Greater d = e

missing-with_monos : (x : Mono) (ts : List (Mono × ℤ)) (ms : List Mono) → is_one x ≡ false →
    Missing x (with_monos ts ms) → (coefficient x ts ≡ pos 0) × Missing x ms
missing-with_monos x [] ms o h = (refl, h)
missing-with_monos x (t ∷ ts) ms o h =
    let rest = missing-with_monos x ts (cond (is_one t.0) ms (with_mono t.0 ms)) o h in
    let here = by_one x t.0 ms o (is_one t.0) refl rest.1 in
    (other_term x t (coefficient x ts) here.0 rest.0 (mono_cmp x t.0) refl, here.1)

missing-with_all : (x : Mono) (place count : ℕ) (ps : List Body) (ms : List Mono) → is_one x ≡
    false → Missing x (with_all ps ms) → Lacks x (given_from place count ps) × Missing x ms
missing-with_all x place count [] ms o h = (tt, h)
missing-with_all x place count (p ∷ ps) ms o h =
    let rest = missing-with_all x (suc place) count ps (with_monos (out-Body p).terms ms) o h in
    let here = missing-with_monos x (out-Body p).terms ms o rest.1 in
    ((here.0, rest.0), here.1)

abbrev none_one : List Mono → Bool
none_one ms = list_all (λ m. not (is_one m)) ms

one-place : (k m : Mono) (ms further : List Mono) → not (is_one k) ≡ true → none_one (m ∷ ms) ≡
    true → none_one further ≡ true → (r : Ordering) → none_one (at_place r k m ms further) ≡ true
one-place k m ms further h g f Less = and_from (not (is_one k)) (none_one (m ∷ ms)) h g
one-place k m ms further h g f Equal = g
one-place k m ms further h g f Greater =
    and_from (not (is_one m)) (none_one further) (and_parts (not (is_one m)) (none_one ms) g).0 f

one-with_mono : (k : Mono) (ms : List Mono) → not (is_one k) ≡ true → none_one ms ≡ true →
    none_one (with_mono k ms) ≡ true
one-with_mono k [] h g = and_from (not (is_one k)) true h refl
one-with_mono k (m ∷ ms) h g =
    one-place k m ms (with_mono k ms) h g (one-with_mono k ms h
    (and_parts (not (is_one m)) (none_one ms) g).1) (mono_cmp k m)

one-by : (k : Mono) (ms : List Mono) → none_one ms ≡ true → (b : Bool) → is_one k ≡ b →
    none_one (cond b ms (with_mono k ms)) ≡ true
one-by k ms h true e = h
one-by k ms h false e = one-with_mono k ms (ap not e) h

one-with_monos : (ts : List (Mono × ℤ)) (ms : List Mono) → none_one ms ≡ true →
    none_one (with_monos ts ms) ≡ true
one-with_monos [] ms h = h
one-with_monos (t ∷ ts) ms h =
    one-with_monos ts (cond (is_one t.0) ms (with_mono t.0 ms)) (one-by t.0 ms h (is_one t.0) refl)

one-with_all : (ps : List Body) (ms : List Mono) → none_one ms ≡ true → none_one (with_all ps ms) ≡
    true
one-with_all [] ms h = h
one-with_all (p ∷ ps) ms h =
    one-with_all ps (with_monos (out-Body p).terms ms) (one-with_monos (out-Body p).terms ms h)

pub given_covers : (place count : ℕ) (ps : List Body) →
    Covers (with_all ps []) (given_from place count ps)
given_covers place count ps = record {
  none_one = one-with_all ps [] refl;
  lacks = λ x o s. (missing-with_all x place count ps [] o s).0;
}
