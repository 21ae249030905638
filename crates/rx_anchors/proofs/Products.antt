-- The choices by number.
use Rattle.std.proofs.Common.{◌≡◌, ◌∙◌, ap, sym, refl, arith, inl, inr, ℕ, zero, suc, ◌+◌, ◌-◌, ◌/◌, ◌%◌, ◌<◌, ◌≤◌, List, [], ◌∷◌, ◌++◌, length, Option, Some, None, append-nil, append_assoc, map, slice_get}
use Rattle.std.specs.Option.{option_map}
use Rattle.std.specs.List.{flat_map}
use Rattle.std.proofs.Math.Nat.{add-div_left, add-mod_left, div-eq_of_lt, mod-eq_of_lt}
use Rattle.std.proofs.lemmas.Bool.{cases_order}
use Rattle.std.proofs.lemmas.Grind.{flat_map-append}
use Rattle.std.proofs.lemmas.List.{length-map, map-append}
use Rattle.std.proofs.lemmas.Option.{slice_get-map, slice_get_past, slice_get_within}
use Rattle.rx_poly.specs.declared.body.Body.{Body}
use Rattle.rx_anchors.specs.Choices.{products}

-- each of the elements after the list
abbrev pub each_last : {A : Type 0} → List A → List A → List (List A)
each_last xs ys = map (λ x. ys ++ x ∷ []) xs

module _ {A : Type 0} where
  after_first : (z : A) (q xs : List A) → map (λ ys. z ∷ ys) (each_last xs q) ≡
      each_last xs (z ∷ q)
  after_first z q [] = refl
  after_first z q (x ∷ xs) = ap (λ yss. (z ∷ q ++ x ∷ []) ∷ yss) (after_first z q xs)

  one_first : (z : A) (xs : List A) (qs : List (List A)) →
      map (λ ys. z ∷ ys) (flat_map (each_last xs) qs) ≡
      flat_map (each_last xs) (map (λ ys. z ∷ ys) qs)
  one_first z xs [] = refl
  one_first z xs (q ∷ qs) =
      map-append (λ (ys : List A). z ∷ ys) (each_last xs q) (flat_map (each_last xs) qs)
      ∙ ap (λ yss. yss ++ map (λ ys. z ∷ ys) (flat_map (each_last xs) qs)) (after_first z q xs)
      ∙ ap (λ yss. each_last xs (z ∷ q) ++ yss) (one_first z xs qs)

  all_first : (zs xs : List A) (qs : List (List A)) →
      flat_map (λ z. map (λ ys. z ∷ ys) (flat_map (each_last xs) qs)) zs ≡
      flat_map (each_last xs) (flat_map (λ z. map (λ ys. z ∷ ys) qs) zs)
  all_first [] xs qs = refl
  all_first (z ∷ zs) xs qs =
      let rest = flat_map (λ y. map (λ ys. y ∷ ys) qs) zs in
      ap (λ yss. yss ++ flat_map (λ y. map (λ ys. y ∷ ys) (flat_map (each_last xs) qs)) zs)
      (one_first z xs qs)
      ∙ ap (λ yss. flat_map (each_last xs) (map (λ ys. z ∷ ys) qs) ++ yss) (all_first zs xs qs)
      ∙ sym (flat_map-append (each_last xs) (map (λ ys. z ∷ ys) qs) rest)

  single_lists : (xs : List A) → flat_map (λ x. map (λ ys. x ∷ ys) ([] ∷ [])) xs ≡
      map (λ x. x ∷ []) xs
  single_lists [] = refl
  single_lists (x ∷ xs) = ap (λ yss. (x ∷ []) ∷ yss) (single_lists xs)

  -- with one list more at the end each choice has one of its elements more at the end
  products-append : (lists : List (List A)) (xs : List A) → products (lists ++ xs ∷ []) ≡
      flat_map (each_last xs) (products lists)
  products-append [] xs = single_lists xs ∙ sym (append-nil (map (λ x. x ∷ []) xs))
  products-append (zs ∷ lists) xs =
      ap (λ yss. flat_map (λ z. map (λ ys. z ∷ ys) yss) zs) (products-append lists xs)
      ∙ all_first zs xs (products lists)

  some_element : (xs : List A) (x : A) (i : ℕ) → slice_get xs i ≡ Some x → 0 < length xs
  some_element xs x i there =
      let within : i < length xs = slice_get_within xs i x there in omega (arith, within)

  left_place : (ys zs : List (List A)) (n : ℕ) → n < length ys → slice_get (ys ++ zs) n ≡
      slice_get ys n
  left_place [] zs n h = absurd (omega (arith, h))
  left_place (y ∷ ys) zs zero h = refl
  left_place (y ∷ ys) zs (suc n) h = left_place ys zs n (omega (arith, h))

  right_place : (ys zs : List (List A)) (k : ℕ) → slice_get (ys ++ zs) (length ys + k) ≡
      slice_get zs k
  right_place [] zs k = ap (slice_get zs) (omega arith)
  right_place (y ∷ ys) zs k =
      let e : length (y ∷ ys) + k ≡ suc (length ys + k) = omega arith in
      ap (slice_get (y ∷ ys ++ zs)) e ∙ right_place ys zs k

  module _ (xs : List A) (x : A) (q : List A) (qs : List (List A)) (n : ℕ)
      (there : slice_get xs (n % length xs) ≡ Some x) where
    in_block : n < length xs → slice_get (flat_map (each_last xs) (q ∷ qs)) n ≡
        option_map (λ ys. ys ++ x ∷ []) (slice_get (q ∷ qs) (n / length xs))
    in_block h =
        let long : n < length (each_last xs q) =
        omega (arith, length-map xs (λ (y : A). q ++ y ∷ []), h) in
        left_place (each_last xs q) (flat_map (each_last xs) qs) n long
        ∙ slice_get-map (λ (y : A). q ++ y ∷ []) xs n
        ∙ ap (λ k. option_map (λ y. q ++ y ∷ []) (slice_get xs k)) (sym (mod-eq_of_lt h))
        ∙ ap (option_map (λ y. q ++ y ∷ [])) there
        ∙ ap (λ k. option_map (λ ys. ys ++ x ∷ []) (slice_get (q ∷ qs) k)) (sym (div-eq_of_lt h))

    past_block : length xs ≤ n →
        ((k : ℕ) → slice_get xs (k % length xs) ≡ Some x →
        slice_get (flat_map (each_last xs) qs) k ≡
        option_map (λ ys. ys ++ x ∷ []) (slice_get qs (k / length xs))) →
        slice_get (flat_map (each_last xs) (q ∷ qs)) n ≡
        option_map (λ ys. ys ++ x ∷ []) (slice_get (q ∷ qs) (n / length xs))
    past_block h rest =
        let k = n - length xs in
        let some : 0 < length xs = some_element xs x (n % length xs) there in
        let split : n ≡ length xs + k = omega (arith, h) in
        let count : length xs ≡ length (each_last xs q) =
        sym (length-map xs (λ (y : A). q ++ y ∷ [])) in
        let lower : n % length xs ≡ k % length xs =
        ap (λ m. m % length xs) split ∙ add-mod_left (length xs) k in
        let upper : n / length xs ≡ suc (k / length xs) =
        ap (λ m. m / length xs) split ∙ add-div_left k some ∙ omega arith in
        ap (slice_get (flat_map (each_last xs) (q ∷ qs))) (split ∙ ap (λ m. m + k) count)
        ∙ right_place (each_last xs q) (flat_map (each_last xs) qs) k
        ∙ rest k (ap (slice_get xs) (sym lower) ∙ there)
        ∙ ap (λ m. option_map (λ ys. ys ++ x ∷ []) (slice_get (q ∷ qs) m)) (sym upper)

  -- the place says which of the elements is last, and which list is before it
  at_block : (xs : List A) (x : A) (qs : List (List A)) (n : ℕ) →
      slice_get xs (n % length xs) ≡ Some x → slice_get (flat_map (each_last xs) qs) n ≡
      option_map (λ ys. ys ++ x ∷ []) (slice_get qs (n / length xs))
  at_block xs x [] n there = refl
  at_block xs x (q ∷ qs) n there = elim (cases_order n (length xs)) [
    | inl same ↦ past_block xs x q qs n there (omega (arith, same)) (at_block xs x qs)
    | inr apart ↦ elim apart [
      | inl less ↦ in_block xs x q qs n there less
      | inr more ↦ past_block xs x q qs n there (omega (arith, more)) (at_block xs x qs)
    ]
  ]

  then_after : (x : A) (done : List A) (o : Option (List A)) →
      option_map (λ ys. ys ++ x ∷ done) o ≡
      option_map (λ ys. ys ++ done) (option_map (λ ys. ys ++ x ∷ []) o)
  then_after x done None = refl
  then_after x done (Some ys) = ap Some (sym (append_assoc ys (x ∷ []) done))

  no_places : (xs : List A) (qs : List (List A)) (n : ℕ) → length xs ≡ 0 →
      slice_get (flat_map (each_last xs) qs) n ≡ None
  no_places [] [] n none = refl
  no_places [] (q ∷ qs) n none = no_places [] qs n none
  no_places (x ∷ xs) qs n none = absurd (omega (arith, none))

-- ---- the walk over the lists, from the last on

-- the choice with the number in all lists is the one with the number that is left in those before,
-- followed by what is chosen
pub record Leaves (lists before : List (List Body)) (number left : ℕ) (chosen : List Body) : Type 0
  where
    pub is : option_map (λ ys. ys ++ chosen) (slice_get (products before) left) ≡
        slice_get (products lists) number

with_none : (o : Option (List Body)) → option_map (λ ys. ys ++ []) o ≡ o
with_none None = refl
with_none (Some ys) = ap Some (append-nil ys)

-- nothing is chosen yet
pub begin : (lists : List (List Body)) (number : ℕ) → Leaves lists lists number number []
begin lists number = record { is = with_none (slice_get (products lists) number) }

module _ (lists before : List (List Body)) (number left : ℕ) (chosen : List Body)
    (l : Leaves lists before number left chosen) where
  -- one more is chosen
  pub next_chosen : (rest : List (List Body)) (xs : List Body) (x : Body) →
      before ≡ rest ++ xs ∷ [] → slice_get xs (left % length xs) ≡ Some x →
      Leaves lists rest number (left / length xs) (x ∷ chosen)
  next_chosen rest xs x split there = record {
    is =
        then_after x chosen (slice_get (products rest) (left / length xs))
        ∙ ap (option_map (λ ys. ys ++ chosen)) (sym (at_block xs x (products rest) left there))
        ∙ ap (λ qs. option_map (λ ys. ys ++ chosen) (slice_get qs left))
        (sym (ap products split ∙ products-append rest xs))
        ∙ l.is;
  }

  -- a list without elements has no choice
  pub none_chosen : (rest : List (List Body)) (xs : List Body) → before ≡ rest ++ xs ∷ [] →
      length xs ≡ 0 → slice_get (products lists) number ≡ None
  none_chosen rest xs split none =
      sym l.is
      ∙ ap (λ qs. option_map (λ ys. ys ++ chosen) (slice_get qs left))
      (ap products split ∙ products-append rest xs)
      ∙ ap (option_map (λ ys. ys ++ chosen)) (no_places xs (products rest) left none)

  -- no list is left
  pub all_chosen : before ≡ [] → left ≡ 0 → Some chosen ≡ slice_get (products lists) number
  all_chosen none zeroth =
      sym (ap (λ ls. option_map (λ ys. ys ++ chosen) (slice_get (products ls) left)) none
      ∙ ap (λ n. option_map (λ ys. ys ++ chosen) (slice_get ([] ∷ []) n)) zeroth)
      ∙ l.is

  -- there are no more choices than the number
  pub past_all : before ≡ [] → 0 < left → slice_get (products lists) number ≡ None
  past_all none more =
      sym l.is
      ∙ ap (λ ls. option_map (λ ys. ys ++ chosen) (slice_get (products ls) left)) none
      ∙ ap (option_map (λ ys. ys ++ chosen)) (slice_get_past ([] ∷ []) left (omega (arith, more)))
