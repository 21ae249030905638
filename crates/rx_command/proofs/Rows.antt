-- The first value of an id, by the entries and by the rows.
use Rattle.std.specs.Prelude.{◌≡◌, ℕ, Bool, true, false, List, [], ◌∷◌, Option, Some, None, map, find, option_map, option_and_then, slice_get, if◌then◌else◌}
use Rattle.std.proofs.Common.{refl, ap, ◌∙◌, sym}
use Rattle.std.specs.Str.{bytes_eq}
use Rattle.clap.specs.Walk.{row_of}
use Rattle.clap.specs.Words.{Row, first_of, first_value, rows_of}
use Rattle.clap.specs.declared.parser.matches.Found.{Found}

-- the first of a list of images is the image of the first
first_image : {A B : Type 0} (f : A → B) (xs : List A) → option_map f (slice_get xs 0) ≡
    slice_get (map f xs) 0
first_image f [] = refl
first_image f (x ∷ xs) = refl

module _ {A B : Type 0} (f : A → B) (p : B → Bool) where
  by_test : (x : A) (b : Bool) (rest : Option B) (rest_of : Option A)
      → rest ≡ option_map f rest_of
      → (if b then Some (f x) else rest) ≡ option_map f (if b then Some x else rest_of)
  by_test x true rest rest_of e = refl
  by_test x false rest rest_of e = e

  -- what is found among images is the image of what is found
  found_image : (xs : List A) → find p (map f xs) ≡ option_map f (find (λ x. p (f x)) xs)
  found_image [] = refl
  found_image (x ∷ xs) =
      by_test x (p (f x)) (find p (map f xs)) (find (λ y. p (f y)) xs) (found_image xs)

-- the first value of what has one, where values are images
module _ {A B M D E : Type 0} (f : A → B) (second : A → M) (vals : M → List D) (now : D → E)
    (values : B → List E)
    (same : (x : A) → map now (vals (second x)) ≡ values (f x)) where
  first_joined : (o : Option A) → option_and_then (λ m. option_map now (slice_get (vals m) 0))
      (option_map second o) ≡ option_and_then (λ b. slice_get (values b) 0) (option_map f o)
  first_joined None = refl
  first_joined (Some x) = first_image now (vals (second x)) ∙ ap (λ vs. slice_get vs 0) (same x)

  pub first_among : (p : B → Bool) (xs : List A) →
      option_and_then (λ m. option_map now (slice_get (vals m) 0))
      (option_map second (find (λ x. p (f x)) xs)) ≡
      option_and_then (λ b. slice_get (values b) 0) (find p (map f xs))
  first_among p xs =
      first_joined (find (λ x. p (f x)) xs) ∙
      ap (option_and_then (λ b. slice_get (values b) 0)) (sym (found_image f p xs))

pub first_value_is : (f : Found) (id : List ℕ) → first_value f id ≡ first_of id (rows_of f)
first_value_is f id =
    first_among row_of (λ e. e.1) (λ a. a.vals.items) (λ s. s.now) (λ (r : Row). r.values)
    (λ x. refl)
    (λ (r : Row). bytes_eq r.id id) f.entries.items
