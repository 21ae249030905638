-- The walk over the points, step by step.
use Rattle.std.proofs.Common.{◌≡◌, ℕ, suc, ◌<◌, ℤ, pos, Some, None, List, [], ◌∷◌, ◌++◌, length, take, drop, get_or, refl, sym, subst, ap, ◌∙◌, arith}
use Rattle.std.specs.Prelude.{neg_ℤ, option_map, unwrap_or}
use Rattle.std.proofs.Math.ListN.{set}
use Rattle.std.proofs.Math.Seq.{take-suc, drop-cons, set-append_seam}
use Rattle.std.proofs.lemmas.List.{take-append-drop, length-take-le, append_assoc}
use Rattle.c_refute.specs.Walk.{lowest, next_integer, next_with, next, stepped}

-- a next point of the last arguments is one of all
next_after : (side : ℕ) (front xs ys : List ℤ) → next side xs ≡ Some ys → next side (front ++ xs) ≡
    Some (front ++ ys)
next_after side [] xs ys is = is
next_after side (x ∷ front) xs ys is =
    ap (next_with side x (front ++ xs)) (next_after side front xs ys is)

-- reading and writing a list after its first elements
read_seam : (xs ys : List ℤ) (y : ℤ) → get_or (xs ++ y ∷ ys) (length xs) (pos 0) ≡ y
read_seam [] ys y = refl
read_seam (x ∷ xs) ys y = read_seam xs ys y

read_at : (xs ys : List ℤ) (n : ℕ) (y : ℤ) → length xs ≡ n → get_or (xs ++ y ∷ ys) n (pos 0) ≡ y
read_at xs ys n y is =
    let P : ℕ → Type 0 = λ m. get_or (xs ++ y ∷ ys) m (pos 0) ≡ y in subst P is (read_seam xs ys y)

written_at : (xs ys : List ℤ) (n : ℕ) (y z : ℤ) → length xs ≡ n → set (xs ++ y ∷ ys) n z ≡ xs ++ z ∷
    ys
written_at xs ys n y z is =
    let P : ℕ → Type 0 = λ m. set (xs ++ y ∷ ys) m z ≡ xs ++ z ∷ ys in
    subst P is (set-append_seam xs y ys z)

-- a point in which the arguments from the place i on have been set to the least, since those had no
-- next point
pub record Carried (side : ℕ) (old now : List ℤ) (i : ℕ) : Type 0 where
  pub now_is : now ≡ take i old ++ lowest side (length (drop i old))
  pub none : next side (drop i old) ≡ None

all_taken : (xs : List ℤ) → take (length xs) xs ++ [] ≡ xs
all_taken [] = refl
all_taken (x ∷ xs) = ap (λ (l : List ℤ). x ∷ l) (all_taken xs)

none_dropped : (xs : List ℤ) → drop (length xs) xs ≡ []
none_dropped [] = refl
none_dropped (x ∷ xs) = none_dropped xs

pub carried_first : (side : ℕ) (old : List ℤ) → Carried side old old (length old)
carried_first side old =
    let nothing : lowest side (length (drop (length old) old)) ≡ [] =
    ap (λ (l : List ℤ). lowest side (length l)) (none_dropped old) in
    record {
      now_is = sym (ap (λ (l : List ℤ). take (length old) old ++ l) nothing ∙ all_taken old);
      none = ap (next side) (none_dropped old);
    }

-- at the argument before the place
module _ (side : ℕ) (old now : List ℤ) (j : ℕ) (within : j < length old)
    (carried : Carried side old now (suc j)) where
  split_now : now ≡ take j old ++ get_or old j (pos 0) ∷ lowest side (length (drop (suc j) old))
  split_now =
      carried.now_is ∙ (ap (λ (l : List ℤ). l ++ lowest side (length (drop (suc j) old)))
      (take-suc old j (pos 0) within)
      ∙ append_assoc (take j old) (get_or old j (pos 0) ∷ [])
      (lowest side (length (drop (suc j) old))))

  taken : length (take j old) ≡ j
  taken = length-take-le j old (omega arith)

  -- it is the argument that is read
  pub carried_read : get_or now j (pos 0) ≡ get_or old j (pos 0)
  carried_read = ap (λ (l : List ℤ). get_or l j (pos 0)) split_now
      ∙ read_at (take j old) (lowest side (length (drop (suc j) old))) j (get_or old j (pos 0))
      taken

  carried_written : (y : ℤ) → set now j y ≡ take j old ++ y ∷
      lowest side (length (drop (suc j) old))
  carried_written y = ap (λ (l : List ℤ). set l j y) split_now
      ∙ written_at (take j old) (lowest side (length (drop (suc j) old))) j (get_or old j (pos 0)) y
      taken

  next_here : next side (drop j old) ≡ option_map (λ y. y ∷ lowest side (length (drop (suc j) old)))
      (next_integer side (get_or old j (pos 0)))
  next_here =
      ap (next side) (drop-cons old j (pos 0) within) ∙
      ap (next_with side (get_or old j (pos 0)) (drop (suc j) old)) carried.none

  -- where it has no next integer, it is set to the least
  pub carried_on : (y : ℤ) → next_integer side (get_or now j (pos 0)) ≡ None → y ≡
      neg_ℤ (pos side) → Carried side old (set now j y) j
  carried_on y ended least =
      let read : next_integer side (get_or old j (pos 0)) ≡ None =
      ap (next_integer side) (sym carried_read) ∙ ended in
      let all : lowest side (length (drop j old)) ≡ neg_ℤ (pos side) ∷
      lowest side (length (drop (suc j) old)) =
      ap (λ (l : List ℤ). lowest side (length l)) (drop-cons old j (pos 0) within) in
      record {
        now_is =
            carried_written y ∙ (ap (λ z. take j old ++ z ∷ lowest side (length (drop (suc j) old)))
            least ∙ ap (λ l. take j old ++ l) (sym all));
        none = next_here ∙ ap (option_map (λ y. y ∷ lowest side (length (drop (suc j) old)))) read;
      }

  -- and where it has one, with this the point is the next one
  pub carried_out : (y : ℤ) → next_integer side (get_or now j (pos 0)) ≡ Some y → set now j y ≡
      stepped side old
  carried_out y raised =
      let read : next_integer side (get_or old j (pos 0)) ≡ Some y =
      ap (next_integer side) (sym carried_read) ∙ raised in
      let here : next side (drop j old) ≡ Some (y ∷ lowest side (length (drop (suc j) old))) =
      next_here ∙ ap (option_map (λ y. y ∷ lowest side (length (drop (suc j) old)))) read in
      let all : next side old ≡ Some (take j old ++ y ∷ lowest side (length (drop (suc j) old))) =
      ap (next side) (sym (take-append-drop j old)) ∙
      next_after side (take j old) (drop j old) (y ∷ lowest side (length (drop (suc j) old)))
      here in
      carried_written y ∙ sym (ap (λ o. unwrap_or o (lowest side (length old))) all)

-- where all are set to the least there was no next point
pub carried_over : (side : ℕ) (old now : List ℤ) → Carried side old now 0 → now ≡ stepped side old
carried_over side old now carried =
    carried.now_is ∙ sym (ap (λ o. unwrap_or o (lowest side (length old))) carried.none)
