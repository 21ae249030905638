-- The list of the points is what the walk from the first one goes through, and its length is a
-- power.
use Rattle.std.proofs.Common.{◌≡◌, ℕ, zero, suc, ◌<◌, ◌+◌, ◌*◌, ◌^◌, ℤ, pos, ◌+ℤ◌, true, false, Option, Some, None, List, [], ◌∷◌, ◌++◌, map, length, refl, sym, subst, ap, ◌∙◌, add-one, arith}
use Rattle.std.specs.Prelude.{neg_ℤ, int_lt, option_map, unwrap_or}
use Rattle.std.specs.List.{flat_map}
use Rattle.std.proofs.lemmas.List.{length-replicate, length-append}
use Rattle.std.proofs.lemmas.Int.{ints}
use Rattle.std.proofs.Math.Nat.{pow-zero, pow-succ'}
use Rattle.c_refute.specs.Points.{integers_from, points}
use Rattle.c_refute.specs.Walk.{lowest, next_integer, next_with, next, stepped}

-- the walk from a point goes through these points, the last of which has no next one
pub data Leads (side : ℕ) : List ℤ → List (List ℤ) → Type 0 where
  Ends : {p : List ℤ} → next side p ≡ None → Leads side p (p ∷ [])
  Goes : {p q : List ℤ} {qs : List (List ℤ)} → next side p ≡ Some q → Leads side q qs →
      Leads side p (p ∷ qs)

-- a next point has as many arguments
length_with : (side : ℕ) (x : ℤ) (xs q : List ℤ) (o : Option (List ℤ)) →
    ((ys : List ℤ) → o ≡ Some ys → length ys ≡ length xs)
    → next_with side x xs o ≡ Some q → length q ≡ suc (length xs)
length_with side x xs q (Some ys) others is =
    let P : Option (List ℤ) → Type 0 = λ o. length (unwrap_or o []) ≡ suc (length xs) in
    subst P is (ap suc (others ys refl))
length_with side x xs q None others is = raised (next_integer side x) is
  where
    raised : (o : Option ℤ) → option_map (λ y. y ∷ lowest side (length xs)) o ≡ Some q → length q ≡
        suc (length xs)
    raised (Some y) given =
        let P : Option (List ℤ) → Type 0 = λ o. length (unwrap_or o []) ≡ suc (length xs) in
        subst P given (ap suc (length-replicate (length xs) (neg_ℤ (pos side))))
    raised None given = absurd (cc)

next_length : (side : ℕ) (p q : List ℤ) → next side p ≡ Some q → length q ≡ length p
next_length side [] q is = absurd (cc)
next_length side (x ∷ xs) q is =
    length_with side x xs q (next side xs) (λ ys given. next_length side xs ys given) is

-- the points after a first argument, and then what follows with the next first argument
block_then : (side : ℕ) (x y : ℤ) → next_integer side x ≡ Some y →
    (p : List ℤ) (ps rest : List (List ℤ)) → Leads side p ps
    → Leads side (y ∷ lowest side (length p)) rest →
    Leads side (x ∷ p) (map (λ xs. x ∷ xs) ps ++ rest)
block_then side x y raised p _ rest (Ends none) after =
    Goes (ap (next_with side x p) none ∙ ap (option_map (λ y. y ∷ lowest side (length p))) raised)
    after
block_then side x y raised p _ rest (Goes {q = q} {qs = qs} is others) after =
    let P : ℕ → Type 0 = λ n. Leads side (y ∷ lowest side n) rest in
    Goes (ap (next_with side x p) is) (block_then side x y raised q qs rest others
    (subst P (sym (next_length side p q is)) after))

-- the points after the last first argument
block_last : (side : ℕ) (x : ℤ) → next_integer side x ≡ None → (p : List ℤ) (ps : List (List ℤ)) →
    Leads side p ps
    → Leads side (x ∷ p) (map (λ xs. x ∷ xs) ps ++ [])
block_last side x ended p _ (Ends none) =
    Ends (ap (next_with side x p) none ∙ ap (option_map (λ y. y ∷ lowest side (length p))) ended)
block_last side x ended p _ (Goes {q = q} {qs = qs} is others) =
    Goes (ap (next_with side x p) is) (block_last side x ended q qs others)

is_last : (side : ℕ) (x : ℤ) → x ≡ pos side → next_integer side x ≡ None
is_last side x is =
    let at : int_lt x (pos side) ≡ false = grind (arith, ints) in
    rw at refl

is_below : (side : ℕ) (x : ℤ) (n : ℕ) → x +ℤ pos (suc n) ≡ pos side → next_integer side x ≡
    Some (x +ℤ pos 1)
is_below side x n is =
    let below : int_lt x (pos side) ≡ true = grind (arith, ints) in
    rw below refl

blocks_lead : (side : ℕ) (arity : ℕ) → Leads side (lowest side arity) (points side arity) →
    (n : ℕ) (x : ℤ) → x +ℤ pos n ≡ pos side
    → Leads side (x ∷ lowest side arity) (flat_map (λ x. map (λ xs. x ∷ xs) (points side arity))
    (integers_from x (suc n)))
blocks_lead side arity others zero x is =
    block_last side x (is_last side x (omega (arith, ints))) (lowest side arity) (points side arity)
    others
blocks_lead side arity others (suc n) x is =
    let P : ℕ → Type 0 = λ m. Leads side ((x +ℤ pos 1) ∷ lowest side m)
    (flat_map (λ x. map (λ xs. x ∷ xs) (points side arity)) (integers_from (x +ℤ pos 1) (suc n))) in
    block_then side x (x +ℤ pos 1) (is_below side x n is) (lowest side arity) (points side arity) _
    others
    (subst P (sym (length-replicate arity (neg_ℤ (pos side))))
    (blocks_lead side arity others n (x +ℤ pos 1) (omega (arith, ints))))

-- the walk from the first point goes through all points
pub points_lead : (side arity : ℕ) → Leads side (lowest side arity) (points side arity)
points_lead side zero = Ends refl
points_lead side (suc arity) =
    let P : ℕ → Type 0 = λ n. Leads side (neg_ℤ (pos side) ∷ lowest side arity)
    (flat_map (λ x. map (λ xs. x ∷ xs) (points side arity)) (integers_from (neg_ℤ (pos side)) n)) in
    subst P (sym (add-one (2 * side))) (blocks_lead side arity (points_lead side arity) (2 * side)
    (neg_ℤ (pos side)) (omega (arith, ints)))

-- the first of the points that it goes through is where it is
abbrev StartsAt : List ℤ → List (List ℤ) → Type 0
StartsAt p [] = ⊥
StartsAt p (q ∷ qs) = q ≡ p

starts_at : (side : ℕ) (p : List ℤ) (ps : List (List ℤ)) → Leads side p ps → StartsAt p ps
starts_at side p _ (Ends none) = refl
starts_at side p _ (Goes is others) = refl

pub leads_here : (side : ℕ) (p q : List ℤ) (all qs : List (List ℤ)) → Leads side p all → all ≡ q ∷
    qs → q ≡ p
leads_here side p q all qs leads is =
    let P : List (List ℤ) → Type 0 = λ l. StartsAt p l in subst P is (starts_at side p all leads)

-- and after it the walk goes through the others, if there are any
abbrev GoesOn : ℕ → List ℤ → List (List ℤ) → Type 0
GoesOn side p [] = ⊥
GoesOn side p (q ∷ qs) = 0 < length qs → Leads side (stepped side p) qs

goes_on : (side : ℕ) (p : List ℤ) (ps : List (List ℤ)) → Leads side p ps → GoesOn side p ps
goes_on side p _ (Ends none) = λ some. absurd (omega arith)
goes_on side p _ (Goes {q = q} {qs = qs} is others) = λ some.
    let P : List ℤ → Type 0 = λ l. Leads side l qs in
    subst P (sym (ap (λ o. unwrap_or o (lowest side (length p))) is)) others

pub leads_on : (side : ℕ) (p q : List ℤ) (all qs : List (List ℤ)) → Leads side p all → all ≡ q ∷
    qs → 0 < length qs → Leads side (stepped side p) qs
leads_on side p q all qs leads is =
    let P : List (List ℤ) → Type 0 = λ l. GoesOn side p l in subst P is (goes_on side p all leads)

length_integers : (n : ℕ) (x : ℤ) → length (integers_from x n) ≡ n
length_integers zero x = refl
length_integers (suc n) x = ap suc (length_integers n (x +ℤ pos 1))

length_block : (x : ℤ) (ps : List (List ℤ)) → length (map (λ xs. x ∷ xs) ps) ≡ length ps
length_block x [] = refl
length_block x (p ∷ ps) = ap suc (length_block x ps)

length_blocks : (ps : List (List ℤ)) (xs : List ℤ) →
    length (flat_map (λ x. map (λ xs. x ∷ xs) ps) xs) ≡ length xs * length ps
length_blocks ps [] = omega arith
length_blocks ps (x ∷ xs) =
    let all = length-append (map (λ xs. x ∷ xs) ps) (flat_map (λ x. map (λ xs. x ∷ xs) ps) xs) in
    omega (arith, all, length_block x ps, length_blocks ps xs)

-- how many points there are
pub points_length : (side arity : ℕ) → length (points side arity) ≡ (2 * side + 1) ^ arity
points_length side zero = sym (pow-zero (2 * side + 1))
points_length side (suc arity) =
    length_blocks (points side arity) (integers_from (neg_ℤ (pos side)) (2 * side + 1))
    ∙ (ap (λ n. n * length (points side arity)) (length_integers (2 * side + 1) (neg_ℤ (pos side)))
    ∙ (ap (λ n. (2 * side + 1) * n) (points_length side arity) ∙
    sym (pow-succ' (2 * side + 1) arity)))

-- each of the lists has n elements
abbrev AllLong : ℕ → List (List ℤ) → Type 0
AllLong n [] = Unit {0}
AllLong n (p ∷ ps) = (length p ≡ n) × AllLong n ps

long_append : (n : ℕ) (ps qs : List (List ℤ)) → AllLong n ps → AllLong n qs → AllLong n (ps ++ qs)
long_append n [] qs first second = second
long_append n (p ∷ ps) qs first second = (first.0, long_append n ps qs first.1 second)

long_block : (n : ℕ) (x : ℤ) (ps : List (List ℤ)) → AllLong n ps →
    AllLong (suc n) (map (λ xs. x ∷ xs) ps)
long_block n x [] long = tt
long_block n x (p ∷ ps) long = (ap suc long.0, long_block n x ps long.1)

long_blocks : (n : ℕ) (ps : List (List ℤ)) → AllLong n ps → (xs : List ℤ) →
    AllLong (suc n) (flat_map (λ x. map (λ xs. x ∷ xs) ps) xs)
long_blocks n ps long [] = tt
long_blocks n ps long (x ∷ xs) =
    long_append (suc n) (map (λ xs. x ∷ xs) ps) (flat_map (λ x. map (λ xs. x ∷ xs) ps) xs)
    (long_block n x ps long) (long_blocks n ps long xs)

points_long : (side arity : ℕ) → AllLong arity (points side arity)
points_long side zero = (refl, tt)
points_long side (suc arity) =
    long_blocks arity (points side arity) (points_long side arity)
    (integers_from (neg_ℤ (pos side)) (2 * side + 1))

long_inside : (n : ℕ) (before after : List (List ℤ)) (p : List ℤ) →
    AllLong n (before ++ p ∷ after) → length p ≡ n
long_inside n [] after p long = long.0
long_inside n (q ∷ before) after p long = long_inside n before after p long.1

-- a point has `arity` arguments
pub point_long : (side arity : ℕ) (before after : List (List ℤ)) (p : List ℤ) → points side arity ≡
    before ++ p ∷ after → length p ≡ arity
point_long side arity before after p is =
    let P : List (List ℤ) → Type 0 = λ l. AllLong arity l in
    long_inside arity before after p (subst P is (points_long side arity))
