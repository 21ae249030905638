-- Laws of sorted lists: what is inserted or joined, that it stays sorted, that it compares alike,
-- and how two are joined from the front.
use Rattle.std.proofs.Common.{◌≡◌, ◌∙◌, ap, Bool, true, false, cond, refl, sym, List, [], ◌∷◌, length, ℕ, suc, ℤ, ◌*ℤ◌, nat_lt, ◌==◌, arith}
use Rattle.std.proofs.lemmas.Bool.Decides.{nat_tests}
use Rattle.std.proofs.lemmas.Bool.{and_parts, and_from}
use Rattle.std.specs.Cmp.{IsTotalOrder, upto, alike_right}
use Rattle.std.specs.Cmp.Lexicographic.{slice_cmp}
use Rattle.std.specs.List.{list_all}
use Rattle.std.specs.Ordering.{is_le, is_gt, ordering_reverse, ordering_then, nat_cmp}
use Rattle.std.specs.declared.cmp.Ordering.{Ordering}
use Rattle.std.specs.declared.cmp.Ordering.TheVariants.{Less, Equal, Greater}
use lib.IntN.{*ℤ_comm}
use Rattle.rx_poly.proofs.OrderLemmas.{reversed_itself}
use Rattle.rx_plain.proofs.Integers.{mul-assoc-int, one-mul-int}
use Rattle.rx_plain.specs.Graded.{graded_cmp}
use Rattle.rx_poly.proofs.Same.{nat_same}
use Rattle.rx_poly.specs.Normal.{is_sorted}
use Rattle.rx_poly.specs.Products.{insert_sorted, join_sorted}
use Rattle.rx_poly.specs.Value.{product_of}

pub gt_is : (r : Ordering) → is_gt r ≡ true → r ≡ Greater
gt_is Less e = cc
gt_is Equal e = cc
gt_is Greater e = refl

not_gt_is_le : (r : Ordering) → is_gt r ≡ false → is_le r ≡ true
not_gt_is_le Less e = refl
not_gt_is_le Equal e = refl
not_gt_is_le Greater e = cc

pub le_not_gt : (r : Ordering) → is_le r ≡ true → is_gt r ≡ false
le_not_gt Less e = refl
le_not_gt Equal e = refl
le_not_gt Greater e = cc

-- two numbers compare as the next two do
nat_cmp-suc : (m n : ℕ) → nat_cmp (suc m) (suc n) ≡ nat_cmp m n
nat_cmp-suc m n =
    let less : nat_lt (suc m) (suc n) ≡ nat_lt m n = grind (arith, nat_tests) in
    let same : (suc m == suc n) ≡ (m == n) = grind (arith, nat_tests) in
    λ i. cond (less i) Less (cond (same i) Equal Greater)

-- an element between two factors changes places with the first
swap_factors : (x y z : ℤ) → y *ℤ (x *ℤ z) ≡ x *ℤ (y *ℤ z)
swap_factors x y z =
    sym (mul-assoc-int y x z) ∙ ap (λ n. n *ℤ z) (*ℤ_comm y x) ∙ mul-assoc-int x y z

module _ {A : Type 0} (R : A → A → Ordering) where
  by_insert : (P : List A → Type 0) (x y : A) (ys : List A) →
      (is_gt (R x y) ≡ true → P (y ∷ insert_sorted R x ys)) →
      (is_gt (R x y) ≡ false → P (x ∷ (y ∷ ys))) → (b : Bool) → is_gt (R x y) ≡ b →
      P (cond b (y ∷ insert_sorted R x ys) (x ∷ (y ∷ ys)))
  by_insert P x y ys f g true e = f e
  by_insert P x y ys f g false e = g e

  -- an element goes after the first, or in front of it
  insert_cases : (P : List A → Type 0) (x y : A) (ys : List A) →
      (is_gt (R x y) ≡ true → P (y ∷ insert_sorted R x ys)) →
      (is_gt (R x y) ≡ false → P (x ∷ (y ∷ ys))) → P (insert_sorted R x (y ∷ ys))
  insert_cases P x y ys f g = by_insert P x y ys f g (is_gt (R x y)) refl

  pub product-insert : (f : A → ℤ) (x : A) (ys : List A) → product_of f (insert_sorted R x ys) ≡
      f x *ℤ product_of f ys
  product-insert f x [] = refl
  product-insert f x (y ∷ ys) =
      insert_cases (λ zs. product_of f zs ≡ f x *ℤ product_of f (y ∷ ys)) x y ys
      (λ _. ap (λ n. f y *ℤ n) (product-insert f x ys) ∙ swap_factors (f x) (f y) (product_of f ys))
      (λ _. refl)

  -- the product of joined lists is the product of both
  pub product-join : (f : A → ℤ) (xs ys : List A) → product_of f (join_sorted R xs ys) ≡
      product_of f xs *ℤ product_of f ys
  product-join f [] ys = sym (one-mul-int (product_of f ys))
  product-join f (x ∷ xs) ys =
      product-insert f x (join_sorted R xs ys) ∙ ap (λ n. f x *ℤ n) (product-join f xs ys) ∙
      sym (mul-assoc-int (f x) (product_of f xs) (product_of f ys))

  pub all-insert : (p : A → Bool) (x : A) (ys : List A) → p x ≡ true → list_all p ys ≡ true →
      list_all p (insert_sorted R x ys) ≡ true
  all-insert p x [] h g = and_from (p x) true h refl
  all-insert p x (y ∷ ys) h g =
      let q = and_parts (p y) (list_all p ys) g in
      insert_cases (λ zs. list_all p zs ≡ true) x y ys
      (λ _. and_from (p y) (list_all p (insert_sorted R x ys)) q.0 (all-insert p x ys h q.1))
      (λ _. and_from (p x) (list_all p (y ∷ ys)) h g)

  -- what all elements of both pass, all joined ones pass
  pub all-join : (p : A → Bool) (xs ys : List A) → list_all p xs ≡ true → list_all p ys ≡ true →
      list_all p (join_sorted R xs ys) ≡ true
  all-join p [] ys h g = g
  all-join p (x ∷ xs) ys h g =
      let q = and_parts (p x) (list_all p xs) h in
      all-insert p x (join_sorted R xs ys) q.0 (all-join p xs ys q.1 g)

  pub all-weaker : (p q : A → Bool) (ys : List A) → ((y : A) → p y ≡ true → q y ≡ true) →
      list_all p ys ≡ true → list_all q ys ≡ true
  all-weaker p q [] w h = refl
  all-weaker p q (y ∷ ys) w h =
      let s = and_parts (p y) (list_all p ys) h in
      and_from (q y) (list_all q ys) (w y s.0) (all-weaker p q ys w s.1)

  length-insert : (x : A) (ys : List A) → length (insert_sorted R x ys) ≡ suc (length ys)
  length-insert x [] = refl
  length-insert x (y ∷ ys) =
      insert_cases (λ zs. length zs ≡ suc (suc (length ys))) x y ys
      (λ _. ap suc (length-insert x ys)) (λ _. refl)

  module _ (o : IsTotalOrder R) where
    turned : (x y : A) → is_gt (R x y) ≡ true → is_le (R y x) ≡ true
    turned x y e = ap is_le (o.antisymm y x ∙ ap ordering_reverse (gt_is (R x y) e))

    pub le_trans : (x y z : A) → is_le (R x y) ≡ true → is_le (R y z) ≡ true → is_le (R x z) ≡ true
    le_trans x y z h g =
        not_gt_is_le (R x z) (upto o x y z (le_not_gt (R x y) h) (le_not_gt (R y z) g))

    pub sorted-insert : (x : A) (ys : List A) → is_sorted R ys ≡ true →
        is_sorted R (insert_sorted R x ys) ≡ true
    sorted-insert x [] h = refl
    sorted-insert x (y ∷ ys) h =
        let p = and_parts (list_all (λ z. is_le (R y z)) ys) (is_sorted R ys) h in
        insert_cases (λ zs. is_sorted R zs ≡ true) x y ys
        (λ e. and_from (list_all (λ z. is_le (R y z)) (insert_sorted R x ys))
        (is_sorted R (insert_sorted R x ys))
        (all-insert (λ z. is_le (R y z)) x ys (turned x y e) p.0) (sorted-insert x ys p.1))
        (λ e. let first = not_gt_is_le (R x y) e in
        and_from (list_all (λ z. is_le (R x z)) (y ∷ ys)) (is_sorted R (y ∷ ys))
        (and_from (is_le (R x y)) (list_all (λ z. is_le (R x z)) ys) first
        (all-weaker (λ z. is_le (R y z)) (λ z. is_le (R x z)) ys (λ z g. le_trans x y z first g)
        p.0)) h)

    -- joined lists are sorted where the second is
    pub sorted-join : (xs ys : List A) → is_sorted R ys ≡ true → is_sorted R (join_sorted R xs ys) ≡
        true
    sorted-join [] ys h = h
    sorted-join (x ∷ xs) ys h = sorted-insert x (join_sorted R xs ys) (sorted-join xs ys h)

    -- ---- an element that is inserted into both of two lists as long doesn't change how they
    -- compare

    first_less : (r s : Ordering) → r ≡ Less → ordering_then r s ≡ Less
    first_less r s e = ap (λ q. ordering_then q s) e

    first_greater : (r s : Ordering) → r ≡ Greater → ordering_then r s ≡ Greater
    first_greater r s e = ap (λ q. ordering_then q s) e

    itself : (x : A) (s : Ordering) → ordering_then (R x x) s ≡ s
    itself x s = ap (λ q. ordering_then q s) (reversed_itself (R x x) (o.antisymm x x))

    -- y comes before x, and x not after z: so y comes before z
    below : (x y z : A) → is_gt (R x y) ≡ true → is_gt (R x z) ≡ false → R y z ≡ Less
    below x y z h g = by (R x z) refl g
      where
        less : R y x ≡ Less
        less = o.antisymm y x ∙ ap ordering_reverse (gt_is (R x y) h)

        by : (r : Ordering) → R x z ≡ r → is_gt r ≡ false → R y z ≡ Less
        by Less e k = o.trans y x z less e
        by Equal e k = sym (alike_right o x z y e) ∙ less
        by Greater e k = cc

    slice-insert : (x : A) (ys zs : List A) → length ys ≡ length zs →
        slice_cmp R (insert_sorted R x ys) (insert_sorted R x zs) ≡ slice_cmp R ys zs
    slice-insert x [] [] e = itself x Equal
    slice-insert x [] (z ∷ zs) e = absurd (omega arith)
    slice-insert x (y ∷ ys) [] e = absurd (omega arith)
    slice-insert x (y ∷ ys) (z ∷ zs) e =
        let rest : length ys ≡ length zs = omega arith in
        insert_cases (λ us. slice_cmp R us (insert_sorted R x (z ∷ zs)) ≡
        slice_cmp R (y ∷ ys) (z ∷ zs)) x y ys
        (λ h. insert_cases (λ vs. slice_cmp R (y ∷ insert_sorted R x ys) vs ≡
        slice_cmp R (y ∷ ys) (z ∷ zs)) x z zs
        (λ g. ap (ordering_then (R y z)) (slice-insert x ys zs rest))
        (λ g. first_less (R y x) _ (o.antisymm y x ∙ ap ordering_reverse (gt_is (R x y) h)) ∙
        sym (first_less (R y z) _ (below x y z h g))))
        (λ h. insert_cases (λ vs. slice_cmp R (x ∷ (y ∷ ys)) vs ≡ slice_cmp R (y ∷ ys) (z ∷ zs)) x z
        zs
        (λ g. first_greater (R x z) _ (gt_is (R x z) g) ∙
        sym (first_greater (R y z) _ (o.antisymm y z ∙ ap ordering_reverse (below x z y g h))))
        (λ g. itself x _))

    graded-insert : (x : A) (ys zs : List A) →
        graded_cmp R (insert_sorted R x ys) (insert_sorted R x zs) ≡ graded_cmp R ys zs
    graded-insert x ys zs =
        (λ i. ordering_then (nat_cmp (length-insert x zs i) (length-insert x ys i))
        (slice_cmp R (insert_sorted R x ys) (insert_sorted R x zs)))
        ∙ ap (λ r. ordering_then r (slice_cmp R (insert_sorted R x ys) (insert_sorted R x zs)))
        (nat_cmp-suc (length zs) (length ys))
        ∙ by (nat_cmp (length zs) (length ys)) refl
      where
        by : (r : Ordering) → nat_cmp (length zs) (length ys) ≡ r →
            ordering_then (nat_cmp (length zs) (length ys))
            (slice_cmp R (insert_sorted R x ys) (insert_sorted R x zs)) ≡
            ordering_then (nat_cmp (length zs) (length ys)) (slice_cmp R ys zs)
        by Less e = first_less _ _ e ∙ sym (first_less _ _ e)
        by Equal e =
            ap (ordering_then (nat_cmp (length zs) (length ys)))
            (slice-insert x ys zs (sym (nat_same (length zs) (length ys) e)))
        by Greater e = first_greater _ _ e ∙ sym (first_greater _ _ e)

    -- a list that is joined to both of two lists doesn't change how they compare
    pub graded-join : (xs ys zs : List A) → graded_cmp R (join_sorted R xs ys) (join_sorted R xs zs)
        ≡ graded_cmp R ys zs
    graded-join [] ys zs = refl
    graded-join (x ∷ xs) ys zs =
        graded-insert x (join_sorted R xs ys) (join_sorted R xs zs) ∙ graded-join xs ys zs

    -- ---- joining from the front

    pub record Sorted (x : A) (xs : List A) : Type 0 where
      pub first : list_all (λ y. is_le (R x y)) xs ≡ true
      pub rest : is_sorted R xs ≡ true

    pub sorted_parts : (x : A) (xs : List A) → is_sorted R (x ∷ xs) ≡ true → Sorted x xs
    sorted_parts x xs h =
        let p = and_parts (list_all (λ y. is_le (R x y)) xs) (is_sorted R xs) h in
        record { first = p.0; rest = p.1 }

    insert-first : (x : A) (ys : List A) → list_all (λ y. is_le (R x y)) ys ≡ true →
        insert_sorted R x ys ≡ x ∷ ys
    insert-first x [] h = refl
    insert-first x (y ∷ ys) h =
        ap (λ b. cond b (y ∷ insert_sorted R x ys) (x ∷ (y ∷ ys)))
        (le_not_gt (R x y) (and_parts (is_le (R x y)) (list_all (λ z. is_le (R x z)) ys) h).0)

    -- a first element of the left list that is not after any other leads
    pub join-left : (x : A) (xs ys : List A) → Sorted x xs → list_all (λ y. is_le (R x y)) ys ≡
        true → join_sorted R (x ∷ xs) ys ≡ x ∷ join_sorted R xs ys
    join-left x xs ys s h =
        insert-first x (join_sorted R xs ys) (all-join (λ y. is_le (R x y)) xs ys s.first h)

    -- so does one of the right list that comes before all of the left
    pub join-right : (y : A) (xs ys : List A) → list_all (λ x. is_gt (R x y)) xs ≡ true →
        join_sorted R xs (y ∷ ys) ≡ y ∷ join_sorted R xs ys
    join-right y [] ys h = refl
    join-right y (x ∷ xs) ys h =
        let p = and_parts (is_gt (R x y)) (list_all (λ z. is_gt (R z y)) xs) h in
        ap (insert_sorted R x) (join-right y xs ys p.1) ∙
        ap (λ b. cond b (y ∷ insert_sorted R x (join_sorted R xs ys))
        (x ∷ (y ∷ join_sorted R xs ys))) p.0

    -- what comes before the first of a sorted list comes before all of it
    pub before_all : (y x : A) (xs : List A) → is_gt (R x y) ≡ true → Sorted x xs →
        list_all (λ z. is_gt (R z y)) (x ∷ xs) ≡ true
    before_all y x xs h s =
        and_from (is_gt (R x y)) (list_all (λ z. is_gt (R z y)) xs) h
        (all-weaker (λ z. is_le (R x z)) (λ z. is_gt (R z y)) xs over s.first)
      where
        over : (z : A) → is_le (R x z) ≡ true → is_gt (R z y) ≡ true
        over z g =
            ap is_gt (o.antisymm z y ∙ ap ordering_reverse (below x y z h (le_not_gt (R x z) g)))

    pub not_after_all : (x y : A) (ys : List A) → is_gt (R x y) ≡ false → Sorted y ys →
        list_all (λ z. is_le (R x z)) (y ∷ ys) ≡ true
    not_after_all x y ys h s =
        let first = not_gt_is_le (R x y) h in
        and_from (is_le (R x y)) (list_all (λ z. is_le (R x z)) ys) first
        (all-weaker (λ z. is_le (R y z)) (λ z. is_le (R x z)) ys (λ z g. le_trans x y z first g)
        s.first)
